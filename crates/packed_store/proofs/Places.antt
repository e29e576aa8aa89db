-- Messages are found where they lie, by a walk from header to header.
use Rattle.std.proofs.Common.{◌≡◌, ℕ, ◌+◌, ◌%◌, ◌<◌, ◌≤◌, false, eqb, List, [], ◌∷◌, ◌++◌, length, get_or, take, drop, None, sym, refl, ap, ◌∙◌, subst, append_assoc, append-nil, add-zero, arith, length-append, length-drop}
use Rattle.std.proofs.lemmas.List.{take_at, drop_at, take-take, get_or-take, get_or-drop, drop-drop, drop-take, length-take-le}
use Rattle.std.proofs.lemmas.Bool.{and_parts, ne_eqb}
use Rattle.store.specs.Listing.{Entry, entry, lookup}
use Rattle.store.proofs.Listed.{lookup_there, lookup_behind}
use Rattle.packed_store.specs.Layout.{packed, number_at, length_at, bytes_at, messages, held_in}
use Rattle.packed_store.specs.Inside.{fit, all_fit, Packs, Sound, Spot, Found}
use Rattle.packed_store.specs.Packing.{packed_append, fit_parts, fitting, four_bytes, used_is}

-- the message at a place is the first of those from there on
pub record Ahead (memory : List ℕ) (used at : ℕ) (back : List Entry) : Type 0 where
  pub rest : List Entry
  pub is : back ≡ entry (number_at memory at) (bytes_at memory at) ∷ rest
  pub inside : at + (16 + length_at memory at) ≤ used

module _ {memory : List ℕ} {used : ℕ} (front back : List Entry) (p : Packs memory used (front ++ back)) (at : ℕ) (place : at ≡ length (packed front)) where
  pub parts : take used memory ≡ packed front ++ packed back
  parts = p.packs ∙ packed_append front back

  pub ends : at + length (packed back) ≡ used
  ends = omega (arith, used_is p, ap length (packed_append front back), length-append (packed front) (packed back))

  pub behind : drop at (take used memory) ≡ packed back
  behind = ap (λ l. drop at l) parts ∙ drop_at (packed front) (packed back) at (sym place)

  byte : (k : ℕ) → at + k < used → get_or memory (at + k) 0 ≡ get_or (packed back) k 0
  byte k h =
      sym (get_or-take used memory (at + k) 0 h) ∙ sym (get_or-drop at (take used memory) k 0) ∙ ap (λ l. get_or l k 0) behind

module _ {memory : List ℕ} {used : ℕ} (front : List Entry) (e : Entry) (back : List Entry) (p : Packs memory used (front ++ e ∷ back)) (at : ℕ) (place : at ≡ length (packed front)) where
  pub message_ends : at + (16 + (length e.bytes + length (packed back))) ≡ used
  message_ends = omega (arith, ends front (e ∷ back) p at place, length-append e.bytes (packed back))

  told : (k : ℕ) → k < 16 → get_or memory (at + k) 0 ≡ get_or (packed (e ∷ back)) k 0
  told k h = byte front (e ∷ back) p at place k (omega (arith, message_ends))

  number_is : number_at memory at ≡ e.number
  number_is =
      let good = and_parts (fit e) (all_fit back) (fit_parts front (e ∷ back) p.good).1 in
      let first : get_or memory at 0 ≡ e.number % 256 = ap (λ i. get_or memory i 0) (sym (add-zero at)) ∙ told 0 (omega arith) in
      rw (first, told 1 (omega arith), told 2 (omega arith), told 3 (omega arith)) (four_bytes e.number (fitting e good.0).0)

  bytes_are : bytes_at memory at ≡ e.bytes
  bytes_are =
      let l = length e.bytes in
      let start = at + 16 in
      let rest : drop start (take used memory) ≡ e.bytes ++ packed back =
      sym (drop-drop 16 at (take used memory)) ∙ ap (λ m. drop 16 m) (behind front (e ∷ back) p at place) in
      ap (λ k. take k (drop start memory)) (told 4 (omega arith)) ∙ sym (drop-take start l memory)
      ∙ ap (λ m. drop start m) (sym (take-take (start + l) used memory (omega (arith, message_ends)))) ∙ drop-take start l (take used memory)
      ∙ ap (λ m. take l m) rest ∙ take_at e.bytes (packed back) l refl

  ahead : Ahead memory used at (e ∷ back)
  ahead =
      record {
        rest = back;
        is = rw (number_is, bytes_are);
        inside = omega (arith, message_ends, told 4 (omega arith));
      }

-- as many bytes lie behind a header as it says
pub bytes_long : {memory : List ℕ} {used : ℕ} → Sound memory used → (at : ℕ) → at + (16 + length_at memory at) ≤ used → length (bytes_at memory at) ≡ length_at memory at
bytes_long {memory} p at inside =
    length-take-le (length_at memory at) (drop (at + 16) memory) (omega (arith, length-drop (at + 16) memory))

-- a memory as the messages of a list that equals its own
reopened : {memory : List ℕ} {used : ℕ} {es : List Entry} → Sound memory used → messages memory used ≡ es → Packs memory used es
reopened {memory} {used} p is = subst (λ (l : List Entry). Packs memory used l) is p

pub spot_packs : {memory : List ℕ} {used at : ℕ} → Sound memory used → (x : Spot memory used at) → Packs memory used (x.front ++ entry (number_at memory at) (bytes_at memory at) ∷ x.back)
spot_packs p x = reopened p x.split

-- a walk that passed the messages of the front, none of them of the number n
pub record Walk (memory : List ℕ) (used n at : ℕ) : Type 0 where
  pub front : List Entry
  pub back : List Entry
  pub split : messages memory used ≡ front ++ back
  pub place : at ≡ length (packed front)
  pub passed : lookup front n ≡ None

module _ {memory : List ℕ} {used n at : ℕ} (p : Sound memory used) (w : Walk memory used n at) where
  next : at < used → Ahead memory used at w.back
  next h = next_in w.back (reopened p w.split)
    where
      next_in : (back : List Entry) → Packs memory used (w.front ++ back) → Ahead memory used at back
      next_in [] q = absurd (omega (arith, ends w.front [] q at w.place))
      next_in (e ∷ rest) q = ahead w.front e rest q at w.place

  -- its header and its bytes lie within what is used
  pub within : at < used → at + (16 + length_at memory at) ≤ used
  within h = (next h).inside

  pub found_here : at < used → number_at memory at ≡ n → Found memory used n at
  found_here h number =
      let x = next h in
      let e = entry (number_at memory at) (bytes_at memory at) in
      let spot : Spot memory used at = record { front = w.front; back = x.rest; split = w.split ∙ ap (λ l. w.front ++ l) x.is; place = w.place; inside = x.inside } in
      record {
        spot = spot;
        number = number;
        long = bytes_long p at x.inside;
        held = ap (lookup (messages memory used)) (sym number) ∙ ap (λ l. lookup l e.number) spot.split
            ∙ lookup_there w.front x.rest e (spot_packs p spot).once;
      }

  pub walk_on : at < used → (number_at memory at ≡ n → ⊥) → Walk memory used n (at + (16 + length_at memory at))
  walk_on h other =
      let x = next h in
      let bytes = bytes_at memory at in
      let one = entry (number_at memory at) bytes ∷ [] in
      let apart : eqb n (number_at memory at) ≡ false = ne_eqb n (number_at memory at) (λ z. other (sym z)) in
      record {
        front = w.front ++ one;
        back = x.rest;
        split = w.split ∙ ap (λ l. w.front ++ l) x.is ∙ sym (append_assoc w.front one x.rest);
        place = omega (arith, w.place, ap length (packed_append w.front one), length-append (packed w.front) (packed one), length-append bytes [], bytes_long p at x.inside);
        passed = lookup_behind w.front one n w.passed ∙ rw apart;
      }

  pub walk_end : used ≤ at → held_in memory used n ≡ None
  walk_end h = ends_in w.back w.split
    where
      ends_in : (back : List Entry) → messages memory used ≡ w.front ++ back → held_in memory used n ≡ None
      ends_in [] is = ap (λ l. lookup l n) (is ∙ append-nil w.front) ∙ w.passed
      ends_in (e ∷ rest) is = absurd (omega (arith, ends w.front (e ∷ rest) (reopened p is) at w.place))
