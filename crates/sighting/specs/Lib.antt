pub mod Exported
pub mod Told
