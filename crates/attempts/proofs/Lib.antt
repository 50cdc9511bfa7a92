-- Laws of attempts that belong to no one function.
pub mod FromRun
pub mod AttemptRead
pub mod ByTables
pub mod LongerRun
pub mod Looked
pub mod Shifted
pub mod Sized
