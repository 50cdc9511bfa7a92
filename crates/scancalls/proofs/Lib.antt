-- Laws of the calls on devices: how many devices a scan heard.
pub mod Heard
