pub mod CodeLemmas
pub mod ElementLemmas
pub mod FormLemmas
pub mod LoopLemmas
mod Worked
