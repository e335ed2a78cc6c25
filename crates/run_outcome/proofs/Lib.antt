mod OpeningLemmas
pub mod PutLemmas
mod Worked
