-- Laws that several proofs of `ray_output` cite.
pub mod Printing
