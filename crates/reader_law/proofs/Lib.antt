mod Settled
pub mod Outcomes
mod Parts
mod Rightly
mod Accepted
pub mod Law
