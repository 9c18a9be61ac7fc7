-- Laws that several proofs of `ray_input` cite.
pub mod Reading
pub mod Writing
