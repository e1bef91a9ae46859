pub mod Shares
pub mod Powers
pub mod CountsWritten
