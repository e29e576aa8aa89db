use Rattle.std.proofs.Common.{arith, length-take}
use Rattle.fixed.proofs.Moves.{remove_rest, remove_more, remove_end}
use Rattle.fixed.proofs.FixedList.remove.Goals as goal

pub loop-j-preserved : goal.loop-j-preserved
loop-j-preserved g c =
    let s = c.loop-j.self.slots in
    let s₀ = c.args.self.now.slots in
    let k = c.loop-j.j in
    (c.loop-j.invariant.0, remove_rest s s₀ k c.loop-j.invariant.1 _, remove_more s s₀ k c.loop-j.invariant.1 _ _ (omega arith) (omega arith) c.loop-j.invariant.2)

pub returns : goal.returns
returns g c =
    let t = length-take c.args.self.now.len c.args.self.now.slots in
    remove_end c.loop-j.self.slots c.args.self.now.slots c.args.i c.args.self.now.len c.loop-j.j (omega arith) (omega arith) (omega arith) (omega arith) c.loop-j.invariant.2
