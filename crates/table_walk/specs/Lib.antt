pub mod Bodies
pub mod Errors
pub mod Reading
pub mod StateView
pub mod Steps
