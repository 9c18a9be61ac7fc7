pub mod OnePair
pub mod Walking
