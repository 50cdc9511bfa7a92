-- What comes back for a request of event polling: the frames, how they are read and written, and that both agree.
pub mod Layout
pub mod Reading
pub mod Writing
pub mod RoundTrip
pub mod Listing
