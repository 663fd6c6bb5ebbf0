-- Text: its parts and pieces, and its lines.
pub mod Gather
pub mod Place
