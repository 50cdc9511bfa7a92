-- The answers on scan frames and devices as structs for C.
pub mod ForC
