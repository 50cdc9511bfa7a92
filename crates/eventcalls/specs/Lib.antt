-- What only the calls on event queues have: urgency by its number.
pub mod Urgency
