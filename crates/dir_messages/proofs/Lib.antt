pub mod CountLemmas
pub mod DepthLemmas
pub mod DrawingLemmas
pub mod FinishLemmas
pub mod FormLemmas
pub mod PartLemmas
pub mod ReaderLemmas
pub mod StatusLemmas
pub mod TableLineLemmas
mod Worked
