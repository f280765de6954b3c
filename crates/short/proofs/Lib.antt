pub mod ReadTurns
pub mod WriteTurns
pub mod LoadCases
pub mod MoveCases
pub mod Injective
