-- PlanRequires has what the functions on plans ask for.
pub mod PlanRequires
