-- Entries has what writing the entries of the catalogue module's table asks for.
pub mod Entries
