-- Laws of judging that belong to no one function.
pub mod Copying
pub mod Attempts
pub mod FromRun
pub mod OutcomeBySyn
pub mod Buffers
pub mod Worked
pub mod Restarting
