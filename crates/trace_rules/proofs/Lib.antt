-- The laws of a trace. Assumes nothing.
pub mod Faults
pub mod Entries
pub mod Recorded
pub mod Listings
pub mod Sounds
pub mod Replays
pub mod Pieces
pub mod Demand3
pub mod Computed
