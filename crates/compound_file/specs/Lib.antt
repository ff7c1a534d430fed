pub mod Entries
pub mod Cfs
pub mod Directories
pub mod Packing
pub mod Packs
