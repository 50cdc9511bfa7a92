-- The answers on event frames, queues and polls as structs for C.
pub mod ForC
