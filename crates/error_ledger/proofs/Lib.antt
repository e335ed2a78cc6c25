pub mod Ascending
pub mod ErrorOrder
pub mod KindLemmas
pub mod LineLemmas
pub mod PrintLemmas
pub mod Sorting
