-- Laws of escapes that belong to no one function.
pub mod Escaped
pub mod EscapeByAddition
pub mod ExpandTurn
pub mod LogicalBytes
pub mod EscapeRoundTrip
pub mod LongerRun
pub mod Looked
pub mod Shifted
pub mod Worked
