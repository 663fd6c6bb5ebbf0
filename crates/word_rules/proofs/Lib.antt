-- The laws of octets as words. Assumes nothing.
pub mod Spelling
pub mod Conversion
pub mod Taking
