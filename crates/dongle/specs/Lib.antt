pub mod Faults
pub mod Trinket
pub mod Presses
pub mod First
pub mod Parts
pub mod Recent
pub mod Laws
