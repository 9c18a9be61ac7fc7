-- Laws of the reasons (OneReason, Sets, Merged), and the steps of the proofs of `ray_trace`.
pub mod Searches
pub mod Answers
pub mod OneReason
pub mod Sets
pub mod Merged
pub mod Examples
