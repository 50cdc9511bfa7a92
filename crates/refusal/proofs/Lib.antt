-- Laws for calls that write, and for the numbers of an answer.
pub mod Writer
pub mod Numbers
pub mod Exit
