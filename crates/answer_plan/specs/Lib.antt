-- The step that an answer makes on a slice of records, and what it decides by value.
pub mod Step
pub mod Value
