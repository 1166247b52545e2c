pub mod Linked
pub mod Shapes
pub mod Makes
pub mod Labels
