-- The answers on Railbus packets and of a relay device as structs for C, and what C hands in.
pub mod ForC
