pub mod Printing
pub mod Lines
pub mod Listing
pub mod Reached
pub mod InnerEntries
pub mod InnerTerms
