pub mod SlotCosts
pub mod Loads
