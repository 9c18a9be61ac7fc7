-- The definitions that the contracts of `enum_codes` cite.
pub mod Codes
