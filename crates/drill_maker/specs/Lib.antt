pub mod Edit
pub mod EditView
pub mod Interchange
pub mod Numbers
pub mod Reduced
pub mod Rows
