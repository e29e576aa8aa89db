-- The laws of a store hold for packed memory, by the list of its messages.
use Rattle.std.proofs.Common.{◌≡◌, ℕ, ◌≤◌, List, length, Some, refl, ◌∙◌, arith}
use Rattle.store.specs.Meaning.{Allowed, CostRules}
use Rattle.store.specs.Listing.{Entry, Lists, total}
use Rattle.store.proofs.Listed.{tallied}
use Rattle.packed_store.specs.declared.arena.PackedStore.{PackedStore}
use Rattle.packed_store.specs.Layout.{units_for, messages}
use Rattle.packed_store.specs.Stored.{contents}
use Rattle.packed_store.specs.Packing.{held_fits, used_total}
use Rattle.packed_store.specs.Opened.{opened}

pub costs_hold : CostRules 4096 units_for
costs_hold = record {
  positive = λ l a. omega arith;
  rising = λ l m a b h. omega arith;
  longest = omega arith;
  bounded = omega arith;
}

pub used_within : (s : PackedStore) → s.used ≤ 4096
used_within s = s.room

pub numbers_fit : (s : PackedStore) (n : ℕ) (b : List ℕ) → contents s n ≡ Some b → n ≤ 4294967295
numbers_fit s n b h = (held_fits (messages s.memory s.used) n b s.good h).0

pub lengths_allowed : (s : PackedStore) (n : ℕ) (b : List ℕ) → contents s n ≡ Some b → Allowed (length b)
lengths_allowed s n b h = (held_fits (messages s.memory s.used) n b s.good h).1

pub listing : (s : PackedStore) → (es : List Entry) × Lists es (contents s)
listing s = (messages s.memory s.used, record { once = s.once; same = λ n. refl })

pub used_total_of : (s : PackedStore) (es : List Entry) → Lists es (contents s) → s.used ≡ total units_for es
used_total_of s es l = used_total (opened s) ∙ tallied units_for (messages s.memory s.used) s.once es l
