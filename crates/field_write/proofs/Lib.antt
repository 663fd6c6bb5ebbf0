-- The laws of writing a field. Assumes nothing.
pub mod Writing
