-- A recording in any cuts.
pub mod Cuts
