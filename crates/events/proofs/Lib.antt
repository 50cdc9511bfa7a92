-- Laws of events: ids, one event, and events from end to end.
pub mod Ids
pub mod EventAt
pub mod EventList
