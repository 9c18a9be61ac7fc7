pub mod Lists
pub mod Turns
pub mod Loops
pub mod Room
