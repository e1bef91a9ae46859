mod RunningCost
mod Marking
mod Making
