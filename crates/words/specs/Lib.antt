pub mod Sorting
pub mod Radix
pub mod RowWord
