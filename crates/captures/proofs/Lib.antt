-- Laws of captures that belong to no one function.
pub mod Through
