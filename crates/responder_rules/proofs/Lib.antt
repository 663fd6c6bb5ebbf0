-- The laws of the answer.
pub mod NoMac
pub mod Room
pub mod Answers
pub mod Accepting
pub mod Leaving
pub mod Reported
pub mod Exact
pub mod Unsent
pub mod Observed
pub mod SentOnce
pub mod Refused
pub mod Idle
