-- The definitions that the contracts of `pair_moves` cite.
pub mod Pairs
