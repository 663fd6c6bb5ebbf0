-- The laws of the answer from a slice of records. Assumes nothing.
pub mod Fits
pub mod Ways
pub mod Answering
pub mod Runs
pub mod Sending
pub mod Deciding
