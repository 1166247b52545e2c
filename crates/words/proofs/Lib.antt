pub mod PieceFacts
pub mod WordFacts
pub mod EndFacts
