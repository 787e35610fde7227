pub mod PartLaws
pub mod ByteLaws
pub mod ClearLaws
pub mod Raising
pub mod FormatLaws
pub mod TallyLaws
pub mod Holding
