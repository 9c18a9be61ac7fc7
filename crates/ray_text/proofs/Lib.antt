-- Laws that several proofs of `ray_text` cite, and document 01's example.
pub mod Running
pub mod Example
