pub mod Ahead
pub mod Closing
mod Coming
pub mod Counting
pub mod Extents
pub mod Fitting
pub mod GroupAhead
pub mod IsKnown
pub mod OneMessage
pub mod Progress
pub mod RuleLaws
pub mod SegmentErrors
pub mod TagKinds
mod Worked
