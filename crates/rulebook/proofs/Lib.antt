-- The theorems: the rule book, what the writers give, demand 2, longer runs, and lengths on the wire.
pub mod WholeForms
pub mod OwnWords
pub mod AcceptedOnWire
pub mod RuleBook
pub mod Recording
pub mod WrittenRead
pub mod DataShown
pub mod EventFrames
pub mod RailbusPackets
pub mod Demand2
pub mod LongerRun
pub mod WireLength
