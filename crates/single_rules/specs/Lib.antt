-- The calls on one datagram or one filter, and their refusals.
pub mod Single
pub mod Refused
