pub mod Base36
pub mod Checksum
pub mod Cur
pub mod Order
pub mod Quoted
pub mod Steps
