-- The laws of the slice of records: of its calls' definitions, and of their being the store's. Assumes nothing.
pub mod Slots
pub mod Moves
pub mod Judging
pub mod Sounds
pub mod Reporting
pub mod Joining
pub mod Encoding
pub mod Sameness
