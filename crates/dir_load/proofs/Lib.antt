pub mod AnswerLemmas
pub mod FileLemmas
pub mod FormLemmas
pub mod GatherLemmas
pub mod LoadLemmas
pub mod ManifestLemmas
pub mod Worked
