pub mod Fnm
pub mod Spelling
