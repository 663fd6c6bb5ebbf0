-- The laws of a filter's words. Assumes nothing.
pub mod Words
pub mod Counting
pub mod Through
