-- Laws that belong to no one function.
pub mod Loops
pub mod Join
