-- RuleRequires has what the tests of the rules for a list of counts ask for.
pub mod RuleRequires
