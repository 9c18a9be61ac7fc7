pub mod Store
pub mod Layout
pub mod Walks
pub mod Fills
pub mod Updates
pub mod Steps
