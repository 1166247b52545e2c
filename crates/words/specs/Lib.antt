pub mod Pieces
pub mod Words
pub mod Texts
pub mod Faults
pub mod Reading
pub mod Lines
