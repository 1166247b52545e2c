pub mod NextFacts
pub mod ListFacts
pub mod Lowest
pub mod Walks
