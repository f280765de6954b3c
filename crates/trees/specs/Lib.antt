pub mod Numbers
pub mod Answers
pub mod Found
pub mod Labels
