pub mod Combine
pub mod Steps
