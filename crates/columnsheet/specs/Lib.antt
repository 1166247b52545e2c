pub mod Groups
pub mod Joins
pub mod Firsts
pub mod ColumnSplits
pub mod Kept
pub mod Parting
pub mod Refusals
pub mod Sheets
