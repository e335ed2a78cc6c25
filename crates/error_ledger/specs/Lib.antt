pub mod Kinds
pub mod Order
pub mod Printing
pub mod TreeCount
