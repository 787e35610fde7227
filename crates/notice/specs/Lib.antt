pub mod Answer
pub mod Input
pub mod Limits
pub mod Record
pub mod Spans
