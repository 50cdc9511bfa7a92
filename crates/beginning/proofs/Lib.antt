-- Laws of a recording's beginning that belong to no one function.
pub mod Pieces
pub mod Begun
