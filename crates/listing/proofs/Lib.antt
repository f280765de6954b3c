pub mod Showing
pub mod ShowCases
pub mod Laying
pub mod Testing
pub mod Fitted
pub mod WriteCases
pub mod Injective
