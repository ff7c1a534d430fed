pub mod Asking
pub mod Commands
pub mod Due
pub mod Meanings
pub mod Words
