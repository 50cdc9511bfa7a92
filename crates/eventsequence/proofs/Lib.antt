-- The proofs of the claims.
pub mod ScansKeep
pub mod MarksUnseen
pub mod Places
pub mod Follows
pub mod NewEvents
pub mod Confirming
pub mod Sending
pub mod Winner
pub mod Fitting
pub mod Packets
pub mod Answering
pub mod Polls
pub mod Steps
pub mod ReadBack
pub mod Told
pub mod Kept
pub mod Fresh
