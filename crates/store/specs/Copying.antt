-- What copies within the stores' memory leave there.
use Rattle.std.specs.Prelude.{ℕ, ◌+◌, ◌-◌, List, ◌++◌, length, take, drop}
use Rattle.std.proofs.Math.Seq.{paste}

-- as many bytes of `from` as `to` has room for, then the rest of `to`
abbrev pub front_copied : List ℕ → List ℕ → List ℕ
front_copied to from = take (length to) from ++ drop (length from) to

-- at the places from `start` to `end`, what stood `gap` places behind
abbrev pub moved_down : List ℕ → ℕ → ℕ → ℕ → List ℕ
moved_down bytes start gap end = paste bytes start (drop (start + gap) bytes) (end - start)

-- what stood behind a gap moves down over it
abbrev pub gap_closed : List ℕ → ℕ → ℕ → List ℕ
gap_closed bytes at size = moved_down bytes at size (length bytes - size)
