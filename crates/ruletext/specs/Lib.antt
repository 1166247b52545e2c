pub mod Texts
pub mod Forms
pub mod Wholes
