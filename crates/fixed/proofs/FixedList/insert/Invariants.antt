use Rattle.std.proofs.Common.{◌≡◌, ◌∷◌, ◌++◌, take, drop}
use Rattle.fixed.proofs.FixedList.insert.Given as goal

abbrev pub invariant-loop-k : goal.invariant-loop-k
invariant-loop-k g l =
    (l.self.len ≡ l.initial.self.len)
    × (drop l.k l.self.slots ≡ drop l.k l.initial.self.slots)
    × (take l.k l.self.slots ++ (l.carried ∷ drop l.k l.initial.self.slots) ≡ take l.i l.initial.self.slots ++ (l.initial.carried ∷ drop l.i l.initial.self.slots))
