pub mod Clean
pub mod Errors
pub mod Placed
pub mod Summary
pub mod Tree
