pub mod Domain
pub mod Spans
pub mod Choices
pub mod Pairs
