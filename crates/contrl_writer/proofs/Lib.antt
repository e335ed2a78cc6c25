mod BlockLemmas
mod ChangeLemmas
mod GroupLemmas
pub mod LevelLemmas
mod LowerLemmas
mod MemberLemmas
mod MessageLemmas
pub mod NeededLemmas
pub mod RangeLemmas
mod ReportLemmas
pub mod TaggedLemmas
mod Worked
