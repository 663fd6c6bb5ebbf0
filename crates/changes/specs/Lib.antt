-- What a line of a case file asks of the client's table.
pub mod Change
pub mod Rows
