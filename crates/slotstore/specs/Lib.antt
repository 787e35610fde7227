pub mod Rows
pub mod SlotStores
pub mod Slots
