-- What a store means: what each call answers, and what is held and used after it.
use Rattle.std.specs.Prelude.{ℕ, ◌+◌, ◌-◌, ◌≤◌, Bool, cond, not, ◌||◌, List, [], ◌∷◌, ◌++◌, length, drop, is_some, Some, None, Ok, Err, Option, Result, ◌==◌, nat_lt}
use Rattle.store.specs.declared.fault.Layer.TheVariants.{Store}
use Rattle.store.specs.declared.fault.StoreFault.{StoreFault}
use Rattle.store.specs.Refusal.{Told, Row, row, tried}

-- the bytes held under each message number, or nothing
abbrev pub Contents : Type 0
Contents = ℕ → Option (List ℕ)

-- the contents of an empty store
abbrev pub nothing : Contents
nothing n = None

-- the contents with bytes under a number
abbrev pub with : Contents → ℕ → List ℕ → Contents
with h n bytes m = cond (m == n) (Some bytes) (h m)

-- the contents with nothing under a number
abbrev pub without : Contents → ℕ → Contents
without h n m = cond (m == n) None (h m)

-- the bytes themselves, none where nothing is held
abbrev pub bytes_in : Option (List ℕ) → List ℕ
bytes_in None = []
bytes_in (Some bytes) = bytes

-- the units that are spent on what is held under a number
abbrev pub units_in : (ℕ → ℕ) → Option (List ℕ) → ℕ
units_in cost None = 0
units_in cost (Some bytes) = cost (length bytes)

-- a message has 1 to 128 bytes
pub record Allowed (l : ℕ) : Type 0 where
  pub some : 1 ≤ l
  pub short : l ≤ 128

-- the rules of a capacity and of the costs of the lengths 1 to 128
pub record CostRules (capacity : ℕ) (cost : ℕ → ℕ) : Type 0 where
  pub positive : (l : ℕ) → Allowed l → 1 ≤ cost l
  pub rising : (l m : ℕ) → Allowed l → Allowed m → l ≤ m → cost l ≤ cost m
  pub longest : cost 128 ≤ capacity
  pub bounded : capacity ≤ 4294967295

-- the row of STORE_FULL, which tells the units wanted and free too
abbrev pub full_row : ℕ → ℕ → ℕ → Bool → Row
full_row n wanted free holds =
    record { tells = record { number = 20; layer = Store; place = n; units = Some (record { wanted = wanted; free = free }) }; holds = holds }

-- a message of a length that is not allowed: BAD_LENGTH
abbrev pub length_rows : ℕ → List ℕ → List Row
length_rows n bytes = row 17 Store n (length bytes == 0 || nat_lt 128 (length bytes)) ∷ []

-- put: BAD_LENGTH, HELD, STORE_FULL
abbrev pub put_rows : ℕ → (ℕ → ℕ) → Contents → ℕ → ℕ → List ℕ → List Row
put_rows capacity cost h used n bytes =
    row 17 Store n (length bytes == 0 || nat_lt 128 (length bytes))
    ∷ row 18 Store n (is_some (h n))
    ∷ full_row n (cost (length bytes)) (capacity - used) (nat_lt capacity (used + cost (length bytes)))
    ∷ []

abbrev pub put_answer : ℕ → (ℕ → ℕ) → Contents → ℕ → ℕ → List ℕ → Result (Unit {0}) Told
put_answer capacity cost h used n bytes = tried (put_rows capacity cost h used n bytes) tt

-- what is held and used after a put: as before if it was refused
abbrev pub held_after_put : Result (Unit {0}) StoreFault → Contents → ℕ → List ℕ → Contents
held_after_put (Ok _) h n bytes = with h n bytes
held_after_put (Err _) h n bytes = h

abbrev pub used_after_put : (ℕ → ℕ) → Result (Unit {0}) StoreFault → ℕ → List ℕ → ℕ
used_after_put cost (Ok _) used bytes = used + cost (length bytes)
used_after_put cost (Err _) used bytes = used

-- copy: NOT_HELD, CRAMPED
abbrev pub copy_rows : Contents → ℕ → List ℕ → List Row
copy_rows h n buffer =
    row 19 Store n (not (is_some (h n))) ∷ row 21 Store n (nat_lt (length buffer) (length (bytes_in (h n)))) ∷ []

-- an accepted copy answers the length of what is held
abbrev pub copy_answer : Contents → ℕ → List ℕ → Result ℕ Told
copy_answer h n buffer = tried (copy_rows h n buffer) (length (bytes_in (h n)))

-- the buffer after a copy: the bytes at its front and the rest as it was, or all as it was if it was refused
abbrev pub buffer_after_copy : Result ℕ StoreFault → List ℕ → List ℕ → List ℕ
buffer_after_copy (Ok _) bytes buffer = bytes ++ drop (length bytes) buffer
buffer_after_copy (Err _) bytes buffer = buffer

-- discard: NOT_HELD
abbrev pub discard_rows : Contents → ℕ → List Row
discard_rows h n = row 19 Store n (not (is_some (h n))) ∷ []

abbrev pub discard_answer : Contents → ℕ → Result (Unit {0}) Told
discard_answer h n = tried (discard_rows h n) tt

-- what is held after a discard: as before if it was refused
abbrev pub held_after_discard : Result (Unit {0}) StoreFault → Contents → ℕ → Contents
held_after_discard (Ok _) h n = without h n
held_after_discard (Err _) h n = h
