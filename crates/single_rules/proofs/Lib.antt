-- A refusal changes nothing. Assumes nothing.
pub mod Refused
