-- One more turn.
use Rattle.std.proofs.Common.{ℕ, ◌+◌, Result, is_ok, cond, arith, [], ◌∷◌, ◌++◌}
use Rattle.std.proofs.lemmas.Fn.{FoldsTo-push}
use Rattle.std.proofs.lemmas.Grind.{common_steps}
use Rattle.turns.specs.Turns.{TakesTurns}

-- a further turn, and its answer
pub takes_one_more : {F T E : Type 0} (step : F → Result T E → F → Type 0) (take : F) (turns accepted : ℕ) (p : F) (answer : Result T E) (q : F) → TakesTurns step take turns accepted p → step p answer q → TakesTurns step take (turns + 1) (accepted + cond (is_ok answer) 1 0) q
takes_one_more step take turns accepted p answer q h s = record {
  answers = h.answers ++ answer ∷ [];
  one_by_one = FoldsTo-push step take h.answers p answer q h.one_by_one s;
  all = grind (arith, common_steps, h.all);
  count = grind (arith, common_steps, h.count);
}
