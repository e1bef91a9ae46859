-- Marks has what the functions on rows and bytes of a sheet give, SheetRequires what those on sheets ask for.
pub mod Marks
pub mod SheetRequires
