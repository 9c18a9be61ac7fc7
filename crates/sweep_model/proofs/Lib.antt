pub mod ChordLimits
