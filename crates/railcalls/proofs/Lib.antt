-- Laws of the calls on Railbus: how answers show as numbers.
pub mod Shown
