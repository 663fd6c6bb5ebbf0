-- The responder, R-1 to R-20.
pub mod Answer
pub mod Call
pub mod Claim
pub mod Once
pub mod Refused
pub mod Idle
