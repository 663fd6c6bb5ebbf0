-- The records of a trace as the code reads them.
pub mod Kind
