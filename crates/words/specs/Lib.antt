-- Words that are numbers, octets or modes.
pub mod Line
pub mod Mode
pub mod Numeral
pub mod OctetWord
pub mod Wrong
