-- What the contracts of `filter` and the calls above it cite: positions of a reference ID, filters, and the calls that check sizes. What publishing writes.
-- The laws of all these.
pub mod Positions
pub mod Filter
pub mod Publishing
pub mod Calls
pub mod Claim
pub mod Laws
