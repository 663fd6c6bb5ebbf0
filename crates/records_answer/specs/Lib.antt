-- The answer, R-4 to R-20, with the saved timestamps as a slice of records, G-9.
pub mod Answer
pub mod Sent
pub mod Same
