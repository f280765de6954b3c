pub mod Numbers
pub mod Shown
pub mod Lists
pub mod Walk
pub mod Opened
pub mod Replayed
