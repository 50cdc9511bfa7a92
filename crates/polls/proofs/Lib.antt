-- Laws of polls: events as their slots hold them, how many fit, the keys, the answer as bytes, and the ways of a poll.
pub mod EventSlots
pub mod PollKeys
pub mod PackedEvents
pub mod PacketBody
pub mod PollCases
