pub mod Concats
pub mod Full
pub mod Ranges
