mod Answering
pub mod Begun
pub mod Clean
mod Found
mod Indexing
pub mod Leading
mod LedLemmas
mod Order
pub mod Placed
pub mod Small
mod SmallSites
mod Steps
mod Summed
mod Tells
mod Walking
mod Whole
mod Worked
