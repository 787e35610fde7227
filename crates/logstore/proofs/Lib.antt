pub mod Compacting
pub mod Images
pub mod Logs
pub mod Smallest
