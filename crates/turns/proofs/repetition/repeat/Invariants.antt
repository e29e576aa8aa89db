use Rattle.std.proofs.Common.{◌≤◌}
use Rattle.turns.specs.Turns.{TakesTurns}
use Rattle.turns.proofs.repetition.repeat.Given as goal

abbrev pub invariant-loop-turn : goal.invariant-loop-turn
invariant-loop-turn g l = record {
  callable : goal.F-IsAlwaysCallable g l.take;
  taken : TakesTurns (goal.F-step g) l.fn.take l._turn l.accepted l.take;
  within : l.accepted ≤ l._turn;
}
