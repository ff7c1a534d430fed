pub mod Postings
pub mod Stores
pub mod Parts
pub mod Written
pub mod Lines
