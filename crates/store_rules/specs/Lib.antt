-- The responder's store of saved timestamps.
pub mod Row
pub mod Place
pub mod Claim
