pub mod LevelPrices
pub mod ForwardWalk
pub mod BackwardWalk
pub mod RoundsWalk
pub mod PlanFound
