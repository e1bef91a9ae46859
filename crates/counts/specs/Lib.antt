-- What the functions on counts ask for: Serving those on a load, AllowedCounts those on lists of allowed counts and on the rounded count.
pub mod Serving
pub mod AllowedCounts
