-- The laws of the store: its octets are those of its row, and each change of the octets is the row's. Assumes nothing.
pub mod Rows
pub mod Written
pub mod Stores
pub mod Places
pub mod Changed
pub mod Kept
pub mod Joins
pub mod Steps
pub mod Sames
pub mod Walks
pub mod Shifts
pub mod Reports
