pub mod Blocks
pub mod Folded
pub mod Listed
pub mod Sizes
pub mod Tags
pub mod Wiped
pub mod Schedule
pub mod Padding
