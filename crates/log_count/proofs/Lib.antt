-- The laws of `log_count`.
pub mod Sums
pub mod Starts
pub mod Bounds
pub mod Keyed
pub mod Fronts
pub mod Stretched
pub mod AllTaken
pub mod Prefixes
pub mod Asking
pub mod Parts
pub mod Onward
