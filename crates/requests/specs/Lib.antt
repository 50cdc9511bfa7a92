-- The requests of a scan: their frames, how they are read and how they are written.
pub mod Layout
pub mod Reading
pub mod Writing
