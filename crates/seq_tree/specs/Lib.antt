pub mod Gathered
pub mod Items
pub mod Join
pub mod Marks
pub mod Seq
pub mod Shape
pub mod Tree
pub mod Walk
