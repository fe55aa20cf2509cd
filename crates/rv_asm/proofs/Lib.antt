pub mod Back
pub mod Steps
