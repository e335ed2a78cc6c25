pub mod Stamp
pub mod Written
pub mod ReadBack
pub mod Details
pub mod Service
pub mod Lent
