-- Laws of closing that belong to no one function.
pub mod Closing
