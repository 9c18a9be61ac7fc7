pub mod Answer
pub mod Examples
pub mod Steps
