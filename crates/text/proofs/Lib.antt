-- The laws of text. Assumes nothing.
pub mod Places
