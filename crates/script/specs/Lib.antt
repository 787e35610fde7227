pub mod Words
pub mod Numbers
pub mod Bytes
pub mod Left
pub mod Shown
pub mod Reasons
