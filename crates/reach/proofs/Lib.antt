-- A head is in range exactly if calls lead to it. Assumes nothing.
pub mod Only
mod Datagram
mod Calls
mod Rounds
pub mod Every
