pub mod AscendingLemmas
pub mod BridgeLemmas
mod CodeLemmas
pub mod ElementLemmas
mod ErrorsLemmas
pub mod FirstRepetition
mod GatherLemmas
mod MergeLemmas
mod NumberLemmas
pub mod OneLemmas
mod OrderedLemmas
mod PassLemmas
mod PlaceLemmas
mod RepeatedLemmas
pub mod RepetitionLemmas
pub mod RulesLemmas
pub mod RunLemmas
pub mod StreamLemmas
mod TallyLemmas
mod TypedLemmas
mod WorkedElements
mod WorkedValues
