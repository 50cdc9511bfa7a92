-- A whole capture.
pub mod Accepted
pub mod OneRun
pub mod SynDecides
pub mod Stretches
pub mod Walked
pub mod Runs
