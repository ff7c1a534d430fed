pub mod DigitLemmas
pub mod EntryLemmas
pub mod LoadLemmas
pub mod MarkLemmas
pub mod NameLemmas
pub mod PassLemmas
pub mod PointLemmas
pub mod PointLoop
pub mod RankLemmas
mod Rows
pub mod SearchLemmas
