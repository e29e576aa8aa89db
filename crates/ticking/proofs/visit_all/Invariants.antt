use mathlib.Core.Path.{◌≡◌}
use Prim.Native.Nat.{◌+◌, ◌-◌}
use Rattle.art.specs.Rules.{numbers_from, visited}
use Rattle.engine.specs.Model.{kind_of, view}
use Rattle.ticking.proofs.visit_all.Given as goal

abbrev pub invariant-loop-t : goal.invariant-loop-t
invariant-loop-t g l =
    let k = kind_of g.S.Store g.O.Order in
    visited k (view g.S.Store l.engine) (numbers_from l.t (l.last + 1 - l.t)) ≡ visited k (view g.S.Store l.initial.engine) (numbers_from 1 l.last)
