pub mod Kept
pub mod Terms
pub mod Postings
pub mod InnerScan
pub mod InnerBeside
pub mod InnerCursor
