mod Rows
pub mod EntryLemmas
pub mod ReadLemmas
pub mod DirectoryLemmas
pub mod SplitLemmas
pub mod NameLemmas
pub mod PackLemmas
pub mod KindLemmas
pub mod WrittenLemmas
pub mod PackedLemmas
pub mod FoundLemmas
pub mod OnlyPacked
