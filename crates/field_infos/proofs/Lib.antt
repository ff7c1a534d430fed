mod Rows
pub mod OneSpelling
pub mod Records
pub mod Spellings
