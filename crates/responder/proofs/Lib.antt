-- The laws of the answer as the code makes it.
pub mod Writing
pub mod Keeping
pub mod Deciding
