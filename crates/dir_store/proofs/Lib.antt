pub mod EndLemmas
pub mod EntryLemmas
pub mod HeadLemmas
pub mod KindLemmas
pub mod KnownLemmas
pub mod LineLemmas
pub mod LoopLemmas
pub mod NumberLemmas
pub mod PutLemmas
pub mod ReprLemmas
pub mod SearchLemmas
pub mod SeveralLemmas
pub mod StoreLemmas
pub mod UsualLemmas
pub mod WholeLemmas
mod Worked
