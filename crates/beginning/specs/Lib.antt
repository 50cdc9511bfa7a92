-- Where the command of a recording starts, rule E21.
pub mod Beginning
