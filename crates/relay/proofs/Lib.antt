-- Laws of the relay device: when what is lent is right, what it answers, and what the calls give.
pub mod Validity
pub mod AnswerCases
pub mod CallCases
