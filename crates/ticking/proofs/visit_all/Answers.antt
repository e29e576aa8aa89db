use mathlib.Core.Path.{◌≡◌, ap}
use Prim.Native.Nat.{◌+◌, ◌-◌}
use native.Mathlib.Omega.{arith}
use Rattle.art.specs.Rules.{numbers_from, visited}
use Rattle.engine.specs.Model.{kind_of, view}
use Rattle.ticking.proofs.Visiting.{tick_more, tick_all}
use Rattle.ticking.proofs.visit_all.Goals as goal

pub loop-t-init : goal.loop-t-init
loop-t-init g c =
    let all : c.args.last + 1 - 1 ≡ c.args.last = omega arith in
    ap (λ n. visited (kind_of g.S.Store g.O.Order) (view g.S.Store c.args.engine.now) (numbers_from 1 n)) all

pub loop-t-preserved : goal.loop-t-preserved
loop-t-preserved g c =
    tick_more (kind_of g.S.Store g.O.Order) (view g.S.Store c.loop-t.engine) (view g.S.Store c.visit.new.engine) _ c.loop-t.t (c.args.last + 1) (omega arith)
    c.visit.ensures c.loop-t.invariant

pub returns : goal.returns
returns g c =
    tick_all (kind_of g.S.Store g.O.Order) (view g.S.Store c.loop-t.engine) _ c.loop-t.t (c.args.last + 1) (omega arith) c.loop-t.invariant
