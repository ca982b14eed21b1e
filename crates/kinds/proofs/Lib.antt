pub mod Ints
pub mod Halves
