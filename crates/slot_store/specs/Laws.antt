-- The laws of a store hold for slots.
use Rattle.std.proofs.Common.{◌≡◌, ℕ, ◌≤◌, List, refl, ◌∙◌, length, Some, arith}
use Rattle.store.specs.Meaning.{Allowed, CostRules}
use Rattle.store.specs.Listing.{Entry, Lists, total}
use Rattle.store.proofs.Listed.{tallied}
use Rattle.slot_store.specs.declared.table.SlotStore.{SlotStore}
use Rattle.slot_store.specs.Slots.{one_unit, messages}
use Rattle.slot_store.specs.Held.{contents}
use Rattle.slot_store.specs.Rows.{bounded, held_allowed}

pub costs_hold : CostRules 64 one_unit
costs_hold = record {
  positive = λ l a. omega arith;
  rising = λ l m a b h. omega arith;
  longest = omega arith;
  bounded = omega arith;
}

pub used_within : (s : SlotStore) → s.used ≤ 64
used_within s = omega (arith, bounded s.slots, s.counted, s.whole)

pub numbers_fit : (s : SlotStore) (n : ℕ) (b : List ℕ) → contents s n ≡ Some b → n ≤ 4294967295
numbers_fit s n b h = (held_allowed n b s.slots h).0

pub lengths_allowed : (s : SlotStore) (n : ℕ) (b : List ℕ) → contents s n ≡ Some b → Allowed (length b)
lengths_allowed s n b h = (held_allowed n b s.slots h).1

pub listing : (s : SlotStore) → (es : List Entry) × Lists es (contents s)
listing s = (messages s.slots, record { once = s.once; same = λ n. refl })

pub used_total_of : (s : SlotStore) (es : List Entry) → Lists es (contents s) → s.used ≡ total one_unit es
used_total_of s es l = s.counted ∙ tallied one_unit (messages s.slots) s.once es l
