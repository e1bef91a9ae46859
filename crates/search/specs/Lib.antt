-- Written has what the functions of the search return and write, SearchRequires what they ask for.
pub mod Written
pub mod SearchRequires
