pub mod Renames
pub mod Searches
pub mod Widths
pub mod Labelling
pub mod Turns
pub mod Verdicts
pub mod Answering
pub mod Injective
