-- The responder's saved timestamps as a slice of records.
pub mod Records
pub mod Value
