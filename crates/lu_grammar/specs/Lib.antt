pub mod Answers
pub mod Bytes
pub mod Parts
pub mod Reading
pub mod Records
pub mod Plans
pub mod Meaning
pub mod RuleNumbers
