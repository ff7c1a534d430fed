pub mod Norms
pub mod Marking
pub mod Deletions
pub mod Spelling
pub mod Lent
pub mod Walking
