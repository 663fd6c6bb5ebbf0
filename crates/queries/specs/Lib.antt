-- The calls that change nothing that they are lent.
pub mod Rows
