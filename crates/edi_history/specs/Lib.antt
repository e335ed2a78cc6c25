pub mod Back
pub mod Batch
pub mod Bounds
pub mod Edit
pub mod Kept
pub mod Past
pub mod Reading
