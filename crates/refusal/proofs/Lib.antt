-- The laws of the refusals' numbers. Assumes nothing.
pub mod Numbers
