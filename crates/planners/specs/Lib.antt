-- PlannerRequires has what the planners' functions ask for.
pub mod PlannerRequires
