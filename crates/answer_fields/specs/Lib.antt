-- The fields of an answer, as they are written.
pub mod Fields
pub mod Pass
