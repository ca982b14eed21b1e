pub mod Ledgers
pub mod Reductions
pub mod Theorems
