pub mod Changes
pub mod Steps
pub mod Removal
