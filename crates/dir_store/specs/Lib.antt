pub mod LineStop
pub mod Lines
pub mod Rules
pub mod Spelling
pub mod Stop
pub mod Store
pub mod Usual
