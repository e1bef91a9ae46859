-- What reading a card gives, in Fields, what the checks of one give, in Checking, and the show of an accepted card, in Shows.
pub mod Fields
pub mod Checking
pub mod Shows
