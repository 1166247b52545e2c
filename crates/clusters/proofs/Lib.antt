pub mod Own
mod Filled
mod Links
mod Loops
mod Made
mod Fronts
