mod DecimalLemmas
pub mod PieceLemmas
pub mod QuietLemmas
pub mod ReadLemmas
mod TextLemmas
pub mod TrimLemmas
