-- Laws of addresses that belong to no one function.
pub mod Worked
