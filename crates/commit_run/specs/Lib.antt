pub mod RunLogs
pub mod Refused
