-- Laws of the oldest events of a queue: their marker, their length on the wire, and the queue without them.
pub mod OldestLaws
pub mod WireLength
pub mod MovedUp
pub mod DropCases
pub mod Dropping
