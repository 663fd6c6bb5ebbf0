-- One field, as it is written.
pub mod Write
