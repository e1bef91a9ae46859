-- Writers has when a writer has room for a text, and when it wrote one.
pub mod Writers
