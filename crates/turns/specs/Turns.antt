-- What it is to take turns and to count those that were accepted.
use Rattle.std.specs.Prelude.{◌≡◌, ℕ, List, length, is_ok, Result}
use Rattle.std.specs.List.{FoldsTo, count_by}

-- turns were taken one after another, from the state take to the state last, and so many of their answers were Ok
pub record TakesTurns {F T E : Type 0} (step : F → Result T E → F → Type 0) (take : F) (turns accepted : ℕ) (last : F) : Type 0 where
  pub answers : List (Result T E)
  pub one_by_one : FoldsTo step take answers last
  pub all : length answers ≡ turns
  pub count : count_by is_ok answers ≡ accepted
