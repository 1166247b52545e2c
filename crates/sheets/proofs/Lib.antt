pub mod Any
pub mod AnyWalk
pub mod Pigeons
pub mod Counts
pub mod ClassRuns
pub mod Structures
pub mod Tables
pub mod Partitions
pub mod Nexts
mod Links
mod Ranks
pub mod WholeSplits
