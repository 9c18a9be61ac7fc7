-- Laws of the answers that are handed back as numbers.
pub mod SweepResults
pub mod Results
pub mod Given
