-- Laws of telegrams that belong to no one function.
pub mod CollectTurn
pub mod CollectedOnWire
pub mod HeadJudged
pub mod TelegramOnWire
pub mod TelegramRead
pub mod LongerRun
pub mod RefusedPlace
