-- Which heads calls lead to.
pub mod Reach
