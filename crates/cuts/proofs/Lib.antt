-- A recording in any cuts.
pub mod Cutting
pub mod Kept
pub mod Stages
pub mod Steps
pub mod AnyCuts
