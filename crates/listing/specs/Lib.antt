-- Texts has the parts of the program's text, and what writing them asks for.
pub mod Texts
