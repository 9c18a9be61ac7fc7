pub mod Material
pub mod Sharing
pub mod Meeting
