-- The devices' side of a scan: the calls, and the whole scan.
pub mod Calls
pub mod WholeScan
