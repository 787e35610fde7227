mod Rooms
pub mod Sames
