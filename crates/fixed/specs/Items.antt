-- The items of a fixed list.
use Rattle.std.specs.Prelude.{ℕ, List, take}
use Rattle.fixed.specs.declared.FixedList.{FixedList}

-- the items of a list, first to last
abbrev pub items : {T : Type 0} {N : ℕ} → FixedList T N → List T
items l = take l.len l.slots
