-- A trace of client calls, W-208: its records, the calls that it is, its replay, and what holds of them.
pub mod Record
pub mod Written
pub mod Trace
pub mod Replay
pub mod Claim
pub mod Worked
