mod Changing
pub mod ByNumber
