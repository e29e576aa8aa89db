-- What a row of slots holds.
use Rattle.std.specs.Prelude.{◌≡◌, ℕ, Bool, false, not, List, [], ◌∷◌, take, is_some, Some, None, Ok, Err, Option, Result, ◌==◌, slice_set, position}
use Rattle.std.specs.List.{flat_map}
use Rattle.store.specs.declared.fault.StoreFault.{StoreFault}
use Rattle.store.specs.Listing.{Entry, entry}
use Rattle.slot_store.specs.declared.slot.Message.{Message}

-- a message of any length costs one unit
abbrev pub one_unit : ℕ → ℕ
one_unit length = 1

-- a slot holds a message, or none
abbrev pub Slot : Type 0
Slot = Option Message

-- it is free where it holds none
abbrev pub is_free : Slot → Bool
is_free x = not (is_some x)

-- a slot that is not free holds its message's number
abbrev pub holds_number : ℕ → Slot → Bool
holds_number n None = false
holds_number n (Some m) = n == m.number

-- the bytes of a message
abbrev pub bytes_of : Message → List ℕ
bytes_of m = take m.length m.bytes

-- a list of one message
abbrev pub only : ℕ → List ℕ → List Entry
only n bytes = entry n bytes ∷ []

-- what a slot holds: one message, or none where it is free
abbrev pub held_by : Slot → List Entry
held_by None = []
held_by (Some m) = only m.number (bytes_of m)

-- the messages of a row of slots, lowest slot first
abbrev pub messages : List Slot → List Entry
messages xs = flat_map held_by xs

-- a row with the slot at one place changed, and what that slot holds then
pub record Changed (xs : List Slot) (place : ℕ) (held : List Entry) (ys : List Slot) : Type 0 where
  pub slot : Slot
  pub changes : ys ≡ slice_set xs place slot
  pub holds : held_by slot ≡ held

-- a row whose lowest free slot holds a message then
pub record Lowest (xs : List Slot) (n : ℕ) (bytes : List ℕ) (ys : List Slot) : Type 0 where
  pub place : ℕ
  pub lowest : Some place ≡ position is_free xs
  pub fills : Changed xs place (only n bytes) ys

-- the slots that a put changes: the lowest free one, or none if it was refused
abbrev pub Takes : Result (Unit {0}) StoreFault → List Slot → ℕ → List ℕ → List Slot → Type 0
Takes (Ok _) xs n bytes ys = Lowest xs n bytes ys
Takes (Err _) xs n bytes ys = ys ≡ xs
