pub mod ServiceTables
pub mod Sound
