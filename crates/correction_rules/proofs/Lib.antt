-- The laws of the switch call. Assumes nothing.
pub mod Sums
pub mod Edits
pub mod Cases
pub mod Corrections
pub mod Passages
