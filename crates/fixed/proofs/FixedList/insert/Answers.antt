use Rattle.std.proofs.Common.{arith, length-take}
use Rattle.fixed.proofs.Moves.{insert_rest, insert_more, insert_end}
use Rattle.fixed.proofs.FixedList.insert.Goals as goal

pub loop-k-preserved : goal.loop-k-preserved
loop-k-preserved g c =
    let s = c.loop-k.self.slots in
    let s₀ = c.args.self.now.slots in
    let k = c.loop-k.k in
    (c.loop-k.invariant.0, insert_rest s s₀ k c.loop-k.invariant.1 _, insert_more s s₀ k c.loop-k.invariant.1 _ _ _ (omega arith) (omega arith) c.loop-k.invariant.2)

pub returns : goal.returns
returns g c =
    let t = length-take c.args.self.now.len c.args.self.now.slots in
    insert_end c.loop-k.self.slots c.args.self.now.slots c.args.i c.args.self.now.len c.loop-k.k _ _ (omega arith) (omega arith) (omega arith) (omega arith) c.loop-k.invariant.2
