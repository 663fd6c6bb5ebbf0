-- The part of a trace that a program holds.
pub mod Window
