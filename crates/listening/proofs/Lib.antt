-- Laws of listening that belong to no one function.
pub mod Undecided
pub mod Restart
