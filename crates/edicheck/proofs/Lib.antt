pub mod CommandLemmas
pub mod KeptLemmas
pub mod PlaceLemmas
pub mod StepLemmas
