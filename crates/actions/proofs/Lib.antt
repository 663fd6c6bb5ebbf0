mod Keeping
pub mod ByNumber
