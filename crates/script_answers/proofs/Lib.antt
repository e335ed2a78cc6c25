mod AnsweredLemmas
pub mod EditLemmas
mod EndedLemmas
mod NextLemmas
mod RoomLemmas
mod RunLemmas
pub mod SessionLemmas
