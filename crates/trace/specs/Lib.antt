pub mod Sets
pub mod Refusals
pub mod Traces
pub mod Layers
pub mod Lent
