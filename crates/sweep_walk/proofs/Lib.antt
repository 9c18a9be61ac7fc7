pub mod AxisRays
pub mod Chords
