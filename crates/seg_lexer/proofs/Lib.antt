pub mod AppendLemmas
mod BareTagLemmas
pub mod ContextEnds
mod ContextLemmas
mod CountLemmas
mod CutLemmas
pub mod EditLemmas
pub mod EndsLemmas
pub mod FieldsLemmas
pub mod ForwardLemmas
pub mod OrderLemmas
mod PartsLemmas
pub mod PlacesLemmas
pub mod ReleasedLemmas
pub mod RepeatLemmas
mod ScanLemmas
pub mod SegmentsLemmas
pub mod ServiceLemmas
mod StretchLemmas
mod TagLemmas
pub mod WholeLemmas
mod WorkedContext
mod WorkedFields
mod WorkedSegments
mod WorkedValues
