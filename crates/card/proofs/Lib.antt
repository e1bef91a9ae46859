pub mod FieldsRead
pub mod Mark
pub mod CardTests
pub mod Groups
pub mod FieldsThere
pub mod Sizes
pub mod Lowest
