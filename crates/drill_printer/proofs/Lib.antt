pub mod DrillLemmas
pub mod PartLemmas
