-- What the tests of the rules for a list of counts and its ratio (document 02, §8) ask for.
use Rattle.std.specs.Prelude.{ℕ, ◌≤◌}

-- Three entries of a list that rise, and a ratio in its range.
pub record Rising (low middle high ratio : ℕ) : Type 0 where
  pub first : low ≤ middle
  pub second : middle ≤ high
  pub ratio_most : ratio ≤ 200
