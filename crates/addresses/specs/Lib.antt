-- Addresses, rules E6 to E8.
pub mod Address
