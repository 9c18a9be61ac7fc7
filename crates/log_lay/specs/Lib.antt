pub mod Updates
pub mod Steps
