-- Laws of feeding that belong to no one function.
pub mod AtOnce
pub mod Idle
pub mod Kept
pub mod RefusedWithin
pub mod Decided
pub mod Attempted
pub mod Turning
pub mod Begun
pub mod Feeding
pub mod BehindHand
pub mod Running
