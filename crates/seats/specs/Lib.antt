-- Found has what is found in the list of seats and what putting back and emptying leave of it, FoundLaws the laws of these, and Scanning that it
-- is found seat by seat.
pub mod Found
pub mod FoundLaws
pub mod Scanning
