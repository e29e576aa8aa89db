use Rattle.std.proofs.Common.{arith, rules}
use Rattle.std.proofs.lemmas.Grind.{common_steps}
use Rattle.turns.proofs.Taking.{takes_one_more}
use Rattle.turns.proofs.repetition.repeat.Goals as goal

pub loop-turn-preserved : goal.loop-turn-preserved
loop-turn-preserved g c =
    let one = c.take_one.ensures.taken in
    let t = takes_one_more _ _ _ _ _ _ _ c.loop-turn.invariant.taken one.1 in
    record {
      callable = search rules;
      taken = rw one.2 t;
      within = grind (arith, common_steps);
    }
