-- A copy to the front of a list. Assumes nothing.
use Rattle.std.proofs.Common.{◌≡◌, ℕ, ◌≤◌, List, ◌++◌, length, drop, ap}
use Rattle.std.proofs.lemmas.List.{take_all}
use Rattle.store.specs.Copying.{front_copied}

-- where all of it has room
pub front_whole : (d s : List ℕ) → length s ≤ length d → front_copied d s ≡ s ++ drop (length s) d
front_whole d s le = ap (λ l. l ++ drop (length s) d) (take_all (length d) s le)
