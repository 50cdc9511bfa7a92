-- What only the calls on frames have: a request by its number.
pub mod RequestNumber
