-- Laws of the contest.
pub mod OneWindow
pub mod OneKey
pub mod Contenders
pub mod SmallestWins
