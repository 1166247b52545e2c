pub mod Rules
pub mod Runs
pub mod Next
pub mod Refusals
pub mod Lists
pub mod Walks
