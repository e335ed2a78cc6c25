mod AnswerLemmas
mod AnsweredLemmas
mod GuideLemmas
mod MatchLemmas
mod OpeningLemmas
mod ScriptLemmas
mod StepLemmas
pub mod SteadyLemmas
mod WordLemmas
