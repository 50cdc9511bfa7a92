-- Laws of any framing and of the scan frames: a frame and its reader are inverse to each other, and the outcomes of the
-- code's checks.
pub mod Framing
pub mod HeadCheck
pub mod CheckBehind
pub mod ScanFrames
