-- A filter as 64 words of 64 bits.
pub mod Words
pub mod Claim
pub mod Laws
