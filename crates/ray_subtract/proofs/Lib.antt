pub mod Places
pub mod Sweeping
pub mod Sparing
