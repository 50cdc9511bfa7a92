-- Escapes on the wire, rules E3 to E5 in their order.
pub mod Escape
pub mod Logical
pub mod Undo
