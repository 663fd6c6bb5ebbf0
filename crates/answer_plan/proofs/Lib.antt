-- What is decided by value makes the step on the records. Assumes nothing.
pub mod RowInRecords
pub mod Stepping
