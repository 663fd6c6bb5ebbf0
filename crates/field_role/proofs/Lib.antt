-- The laws of roles. Assumes nothing.
pub mod Roles
