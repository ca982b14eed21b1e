pub mod Entries
pub mod Faults
pub mod Texts
pub mod Verdicts
pub mod Words
