-- Each turn, the messages in front of `at` are passed.
use Rattle.std.proofs.Common.{◌-◌}
use Rattle.packed_store.proofs.Places.{Walk}
use Rattle.packed_store.proofs.arena.PackedStore.find.Given as goal

abbrev pub invariant-loop-at : goal.invariant-loop-at
invariant-loop-at l = Walk l.self.memory l.self.used l.number l.at

abbrev pub decreases-loop-at : goal.decreases-loop-at
decreases-loop-at l = l.self.used - l.at
