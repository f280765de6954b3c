pub mod Text
pub mod Report
pub mod Writes
pub mod Held
