pub mod LowBytes
pub mod Joined
