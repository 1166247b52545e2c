pub mod Meaning
pub mod Sets
pub mod Atoms
