pub mod Cells
pub mod Reading
