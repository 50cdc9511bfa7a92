-- What may stand on the wire, what is written and read back, and demand 2 as one claim.
pub mod Rules
pub mod ReadBack
pub mod Demand2
pub mod Lengths
