-- The laws of words. Assumes nothing.
pub mod Writing
pub mod Numerals
pub mod Problems
