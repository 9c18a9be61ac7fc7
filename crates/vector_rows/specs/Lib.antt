-- The definitions that the contracts of `vector_rows` cite.
pub mod Words
pub mod Agreement
pub mod RowCounts
pub mod ReadWords
pub mod Replays
