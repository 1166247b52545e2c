pub mod TextFacts
pub mod NextFacts
pub mod Formed
mod Specimens
