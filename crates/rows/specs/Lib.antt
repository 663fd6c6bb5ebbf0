-- Which call a line is.
pub mod Rows
pub mod Answers
