-- What a line of a case file asks of the responder, and what it leaves of the store.
pub mod Given
pub mod Kept
pub mod Rows
