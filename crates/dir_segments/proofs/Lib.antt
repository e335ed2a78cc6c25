pub mod CompositeForms
pub mod FieldLemmas
pub mod FormLemmas
pub mod FrontLemmas
pub mod ItemLemmas
pub mod KnownLemmas
mod PartLemmas
pub mod RepetitionLemmas
pub mod StopLemmas
pub mod UnnumberedLemmas
mod Worked
pub mod WorkedComposites
