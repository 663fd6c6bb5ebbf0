-- The numbers of the C interface.
pub mod Numbers
pub mod Headers
pub mod Replayed
