pub mod Envelope
pub mod Head
pub mod HeadValue
pub mod Heads
pub mod Known
