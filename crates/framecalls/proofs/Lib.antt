-- Laws of the calls on frames: what a request's number writes.
pub mod RequestOutput
