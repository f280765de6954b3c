pub mod Counting
pub mod Distinct
pub mod RowWords
pub mod Groups
pub mod Order
pub mod Lent
pub mod Turns
pub mod Falls
