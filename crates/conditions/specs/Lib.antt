pub mod Conditions
pub mod Variables
pub mod Grammar
pub mod Parser
pub mod Answers
