-- Each answer of the crates below as a struct that C takes.
pub mod ForC
