-- The refusals and their numbers.
pub mod Refusal
pub mod Claim
