pub mod Sums
pub mod Applying
pub mod ListTests
pub mod Lists
pub mod ChangeTests
