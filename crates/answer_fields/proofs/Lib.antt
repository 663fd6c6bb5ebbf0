-- The laws of an answer's fields. Assumes nothing.
pub mod Writing
pub mod Passes
pub mod Filling
