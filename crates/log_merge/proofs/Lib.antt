-- Laws that belong to no one function.
pub mod Cutting
pub mod Loading
pub mod Rays
pub mod MergedRay
pub mod AllRays
