pub mod Behind
pub mod Inputs
pub mod Records
