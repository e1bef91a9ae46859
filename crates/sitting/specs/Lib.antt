-- Phases has the phases that the code tells apart, Seen what an act answers and does by what is found in the list of seats; that it does so by the list is in
-- Acted, of an opening in Opened.
pub mod Phases
pub mod Seen
pub mod Acted
pub mod Opened
