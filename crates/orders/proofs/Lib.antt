pub mod Puts
pub mod Marking
mod Tables
mod Reducing
mod Counting
mod Steps
pub mod Diagrams
