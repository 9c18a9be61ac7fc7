-- The definitions that the contracts of `c_results` cite.
pub mod Numbers
