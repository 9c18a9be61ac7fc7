-- The definitions of keys, of the entries that they stand for, and of the hits of these.
pub mod Keys
pub mod KeysKept
