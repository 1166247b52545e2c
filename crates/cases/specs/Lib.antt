pub mod Ladders
pub mod FinestClasses
