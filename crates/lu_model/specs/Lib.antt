pub mod Index
pub mod Contents
pub mod Valid
