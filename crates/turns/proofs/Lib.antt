-- Laws of one request: who wins, the ways it comes out, and what it keeps.
pub mod Keys
pub mod Winner
pub mod TurnCases
pub mod TurnKeeps
pub mod AnyMarkBits
