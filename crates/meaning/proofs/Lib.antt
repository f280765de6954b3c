pub mod Splicing
pub mod TreeReadings
pub mod Standing
pub mod AnswersMean
pub mod Request112
pub mod Examples
