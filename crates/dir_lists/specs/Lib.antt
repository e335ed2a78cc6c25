pub mod Codes
pub mod Elements
