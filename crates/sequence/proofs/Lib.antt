-- The proof of demand 3.
pub mod Ranks
pub mod MarksInOrder
pub mod TurnsDue
pub mod OneRemains
pub mod CallTurns
pub mod CallRefusals
pub mod WholeScans
pub mod Demand3
