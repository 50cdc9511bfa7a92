-- What a poll asks of a queue: its marker, how long its oldest events are on the wire, and the queue without them.
pub mod Oldest
