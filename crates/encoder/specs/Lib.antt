-- Heads has the head of a card from plain fields.
pub mod Heads
