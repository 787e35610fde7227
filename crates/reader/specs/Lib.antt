pub mod Faults
pub mod Drawing
pub mod Same
pub mod Evidence
pub mod Rules
pub mod Verdict
