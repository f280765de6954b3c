pub mod Words
pub mod Heads
pub mod Sets
pub mod Puts
pub mod Laid
pub mod Ends
pub mod Numbers
pub mod Answers
