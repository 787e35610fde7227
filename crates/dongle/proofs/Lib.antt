mod Replies
pub mod Runs
pub mod Wipes
