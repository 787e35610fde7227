pub mod Blocks
pub mod Changes
pub mod Images
pub mod RowLists
pub mod Stores
pub mod Sweeps
