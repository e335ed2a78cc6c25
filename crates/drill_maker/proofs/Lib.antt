pub mod EditLemmas
pub mod LengthLemmas
pub mod RangeLemmas
pub mod ReducedLemmas
mod Worked
