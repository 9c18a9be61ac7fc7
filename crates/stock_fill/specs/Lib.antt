pub mod Uncut
