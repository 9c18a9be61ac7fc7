pub mod Uncut
pub mod Answers
pub mod UncutSound
