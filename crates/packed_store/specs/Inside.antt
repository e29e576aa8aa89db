-- What is true of a memory with messages in it, and of the places where they begin.
use Rattle.std.specs.Prelude.{◌≡◌, ℕ, ◌+◌, ◌≤◌, Bool, true, ◌&&◌, List, [], ◌∷◌, ◌++◌, length, take, Some, nat_le}
use Rattle.store.specs.Listing.{Entry, entry, distinct}
use Rattle.packed_store.specs.Layout.{packed, number_at, length_at, bytes_at, messages, held_in}

-- a number of 32 bits and a length that is allowed
abbrev pub fit : Entry → Bool
fit e = nat_le e.number 4294967295 && (nat_le 1 (length e.bytes) && nat_le (length e.bytes) 128)

-- the same of each message
abbrev pub all_fit : List Entry → Bool
all_fit [] = true
all_fit (e ∷ es) = fit e && all_fit es

-- the used part of a memory is the messages of a list, side by side, no number twice
pub record Packs (memory : List ℕ) (used : ℕ) (es : List Entry) : Type 0 where
  pub whole : length memory ≡ 4096
  pub room : used ≤ 4096
  pub packs : take used memory ≡ packed es
  pub good : all_fit es ≡ true
  pub once : distinct es ≡ true

-- it is the messages that are read in that part
abbrev pub Sound : List ℕ → ℕ → Type 0
Sound memory used = Packs memory used (messages memory used)

-- a place where a message begins, between those in front of it and those behind it
pub record Spot (memory : List ℕ) (used at : ℕ) : Type 0 where
  pub front : List Entry
  pub back : List Entry
  pub split : messages memory used ≡ front ++ entry (number_at memory at) (bytes_at memory at) ∷ back
  pub place : at ≡ length (packed front)
  pub inside : at + (16 + length_at memory at) ≤ used

-- the place of the message of a number
pub record Found (memory : List ℕ) (used n at : ℕ) : Type 0 where
  pub spot : Spot memory used at
  pub number : number_at memory at ≡ n
  pub long : length (bytes_at memory at) ≡ length_at memory at
  pub held : held_in memory used n ≡ Some (bytes_at memory at)
