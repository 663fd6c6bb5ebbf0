-- What a field of a request asks of a responder.
pub mod Correction
pub mod Role
