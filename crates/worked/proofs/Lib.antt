-- The claims about the worked cases. Assumes nothing.
pub mod Claim
pub mod Idle
