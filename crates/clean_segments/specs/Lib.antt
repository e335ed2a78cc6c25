pub mod After
pub mod Clean
pub mod Kind
pub mod Looked
pub mod Plain
pub mod Start
