pub mod Digits
pub mod EachBelow
