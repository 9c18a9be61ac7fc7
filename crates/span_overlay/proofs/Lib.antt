-- Laws that belong to no one function.
pub mod Less
pub mod Shared
pub mod TwoLists
pub mod Cutting
pub mod Common
pub mod Within
