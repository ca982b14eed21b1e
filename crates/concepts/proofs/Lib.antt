pub mod Meanings
pub mod Firsts
pub mod Values
pub mod Saturation
pub mod Verdicts
