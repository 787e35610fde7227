pub mod Banks
pub mod Digests
pub mod Stores
