pub mod Asked
pub mod Ends
pub mod Marked
pub mod Telling
pub mod TextMarked
