pub mod Composites
pub mod Parts
pub mod Repetitions
pub mod Segments
pub mod Unnumbered
