-- Octets as words of 64 bits, and back.
pub mod Words
