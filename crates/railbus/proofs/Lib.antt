-- Laws of Railbus packets: digits, the outcomes of the reader, numbers and their digits, messages and their letters, what the writer
-- puts down, that reading and writing are inverse to each other, and the source's packets.
pub mod Digits
pub mod Reader
pub mod Spelling
pub mod Letters
pub mod Writer
pub mod RoundTrip
pub mod Worked
