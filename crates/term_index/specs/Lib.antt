pub mod InnerSearch
pub mod Points
pub mod Seeking
