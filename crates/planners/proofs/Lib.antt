pub mod Fronts
pub mod Searched
pub mod Planning
