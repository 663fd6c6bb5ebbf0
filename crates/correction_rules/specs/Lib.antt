-- What a switch does to the Correction field of a passing datagram.
pub mod Sum
pub mod Correct
pub mod Passage
pub mod Claim
