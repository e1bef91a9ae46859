-- Exchanges has what is counted in the rows of a sheet, ExplainedAs the points of a result, and ExplanationRequires what the functions of this
-- crate ask for.
pub mod Exchanges
pub mod ExplainedAs
pub mod ExplanationRequires
