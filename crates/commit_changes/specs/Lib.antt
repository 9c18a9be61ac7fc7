pub mod Verdicts
pub mod ChangeCommit
