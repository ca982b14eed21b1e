pub mod Codes
pub mod Meets
