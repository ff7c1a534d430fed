pub mod ListLemmas
pub mod PostingLemmas
