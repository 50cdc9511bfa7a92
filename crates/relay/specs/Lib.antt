-- A relay device on Railbus: its registers and access bytes, what it answers, and the calls.
pub mod Device
pub mod Answers
pub mod Calls
