pub mod Again
pub mod Change
pub mod Edit
pub mod Kept
pub mod Passing
pub mod Reading
pub mod Rerun
pub mod Stretch
