mod Among
mod Batches
mod Begins
pub mod Begun
mod Bounded
mod Changing
mod ChangingReading
mod Contexts
mod Edited
pub mod Edits
mod Finds
mod Fronts
mod Joined
mod KeptEnds
pub mod LastMode
mod Later
pub mod Locating
mod Modes
mod ModesTaken
mod PlacedAgain
mod Places
mod PlacingAgain
mod Reached
pub mod Readings
mod RecordEnds
mod Records
mod Rerunning
mod RestCounts
pub mod StepLaws
mod Stops
pub mod StretchRead
mod Taken
mod Whole
mod Worked
