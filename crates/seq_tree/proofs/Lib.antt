pub mod Ends
pub mod Entries
pub mod Heights
pub mod Parts
pub mod Passing
pub mod Ranges
pub mod Stacks
pub mod Through
mod Worked
mod WorkedTrees
