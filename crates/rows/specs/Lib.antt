pub mod Numbers
pub mod Tables
pub mod Shapes
pub mod Hanging
pub mod Censuses
pub mod Groups
pub mod Suiting
pub mod Theorems
