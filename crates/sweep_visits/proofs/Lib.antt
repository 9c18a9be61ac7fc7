pub mod Cells
pub mod Walks
