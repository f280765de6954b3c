pub mod Fits
pub mod Bounds
pub mod Refusals
pub mod Answers
