pub mod Tuples
pub mod Tables
pub mod Meaning
