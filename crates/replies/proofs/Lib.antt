-- Laws of the data of a reply.
pub mod Data
pub mod Worked
