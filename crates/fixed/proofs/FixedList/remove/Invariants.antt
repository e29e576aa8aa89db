use Rattle.std.proofs.Common.{◌≡◌, ◌+◌, ◌++◌, take, drop}
use Rattle.fixed.proofs.FixedList.remove.Given as goal

abbrev pub invariant-loop-j : goal.invariant-loop-j
invariant-loop-j g l =
    (l.self.len ≡ l.initial.self.len)
    × (drop (l.j + 1) l.self.slots ≡ drop (l.j + 1) l.initial.self.slots)
    × (take l.j l.self.slots ++ drop (l.j + 1) l.initial.self.slots ≡ take l.i l.initial.self.slots ++ drop (l.i + 1) l.initial.self.slots)
