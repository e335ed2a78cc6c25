pub mod Answer
pub mod Held
pub mod Keeping
pub mod Script
pub mod Told
