-- The proof of the claim.
pub mod Hearing
pub mod Registers
pub mod Answers
pub mod OneCall
pub mod AllCalls
pub mod Refusals
pub mod Unchanged
pub mod Next
pub mod Kept
