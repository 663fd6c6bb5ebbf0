-- The laws of filters, which other crates cite.
pub mod Digits
pub mod Adding
pub mod Uniting
pub mod Weights
pub mod Publishing
pub mod Turns
