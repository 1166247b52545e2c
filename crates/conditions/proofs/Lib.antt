pub mod VariableFacts
pub mod EndFacts
pub mod LevelFacts
pub mod Complete
pub mod Sound
