pub mod Counted
pub mod Gathered
pub mod Load
pub mod Manifest
pub mod Stop
