-- Laws of the guard.
pub mod GuardCases
