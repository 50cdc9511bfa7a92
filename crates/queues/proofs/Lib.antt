-- Laws of the queues: what valid ones have, the slots of one device among all, the events in them, and valid queues of which one
-- device's slots are replaced.
pub mod Below
pub mod Ids
pub mod SlotsOf
pub mod SlotsRight
pub mod Events
pub mod Meaning
pub mod Replaced
