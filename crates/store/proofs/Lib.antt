pub mod Histories
pub mod Puts
pub mod Sets
