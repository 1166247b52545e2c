pub mod Products
pub mod SizeFacts
pub mod DigitLoops
pub mod OwnSizes
pub mod Backwards
