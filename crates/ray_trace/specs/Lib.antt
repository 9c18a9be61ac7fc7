-- What the contracts of `ray_trace` cite (Reasons, Trace, Steps), what a reason means (Sets), worked places (Examples).
pub mod Reasons
pub mod Trace
pub mod Sets
pub mod Steps
pub mod Examples
