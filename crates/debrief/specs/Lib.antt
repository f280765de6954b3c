pub mod Plans
pub mod Turns
