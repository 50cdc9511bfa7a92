-- Laws of a new event: how it is put into its slot, the ways the call comes out, and what an accepted one does.
pub mod PutSlot
pub mod AddCases
pub mod NewEvent
