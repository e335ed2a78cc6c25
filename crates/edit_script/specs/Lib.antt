pub mod Beginnings
pub mod Command
pub mod Next
pub mod Reading
pub mod Rest
pub mod Script
pub mod Stop
pub mod Texts
