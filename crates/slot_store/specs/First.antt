-- The first place that passes a test. Of `position`: what it says of the list that a place was found, or none.
-- Of a loop that looks at each place in turn: its steps (first_here, first_next, first_none) end in what `position`
-- answers. The crate's searches call `position`, and use neither those steps nor none_passes. Assumes nothing.
use Rattle.std.specs.Prelude.{◌≡◌, ℕ, ◌+◌, ◌<◌, ◌≤◌, Bool, true, false, not, ltb, List, [], ◌∷◌, length, drop, Some, None, nat_lt, slice_index_or, position, refl}
use Rattle.std.proofs.Common.{sym, ⊎_elim, one-add, arith}
use Rattle.std.specs.List.{prefix_len, All, AllByRecursion, position_or_len}
use Rattle.std.proofs.lemmas.List.Sums.{prefix_len-drop_yes, prefix_len-drop_no, prefix_len-drop_all, fails_before_first}
use Rattle.std.proofs.lemmas.Bool.{lt-ltb, le-ltb, ltb-true, ltb-false, not_from_true, not_from_false, not-false, cases_Bool}
use Rattle.store.proofs.Listed.{some_not_none}

-- how far a run of elements that pass goes, and what stands behind it
leading_stops : {X : Type 0} (q : X → Bool) (xs : List X) (d : X) → prefix_len q xs < length xs → q (slice_index_or xs (prefix_len q xs) d) ≡ false
leading_stops q [] d h = absurd (omega arith)
leading_stops q (x ∷ xs) d h =
    ⊎_elim
    (λ (t : q x ≡ true). rw (t, one-add) (leading_stops q xs d (omega (arith, rw t at h))))
    (λ (f : q x ≡ false). rw f f)
    (cases_Bool (q x))

leading_all : {X : Type 0} (q : X → Bool) (xs : List X) → length xs ≤ prefix_len q xs → AllByRecursion (λ x. q x ≡ true) xs
leading_all q [] h = tt
leading_all q (x ∷ xs) h =
    ⊎_elim
    (λ (t : q x ≡ true). (t, leading_all q xs (omega (arith, rw t at h))))
    (λ (f : q x ≡ false). absurd (omega (arith, rw f at h)))
    (cases_Bool (q x))

module _ {X : Type 0} (p : X → Bool) (xs : List X) where
  -- how many fail before the first that passes
  abbrev failing : ℕ
  failing = prefix_len (λ x. not (p x)) xs

  -- no element below i passes
  abbrev pub Passed : ℕ → Type 0
  Passed i = i + prefix_len (λ x. not (p x)) (drop i xs) ≡ failing

  -- a loop that looks at each place
  pub first_here : (i : ℕ) (x : X) → i < length xs → Passed i → p (slice_index_or xs i x) ≡ true → Some i ≡ position p xs
  first_here i x h inv t =
      let stop = prefix_len-drop_no (λ y. not (p y)) xs i x h (not_from_true (p (slice_index_or xs i x)) t) in
      let e : failing ≡ i = omega (arith, inv, stop) in
      rw (e, lt-ltb i (length xs) h)

  pub first_next : (i : ℕ) (x : X) → i < length xs → Passed i → p (slice_index_or xs i x) ≡ false → Passed (i + 1)
  first_next i x h inv t =
      let more = prefix_len-drop_yes (λ y. not (p y)) xs i x h (not_from_false (p (slice_index_or xs i x)) t) in
      omega (arith, inv, more)

  pub first_none : (i : ℕ) → length xs ≤ i → Passed i → None ≡ position p xs
  first_none i h inv =
      let end = prefix_len-drop_all (λ y. not (p y)) xs i h in
      let e : length xs ≤ failing = omega (arith, inv, end) in
      rw (le-ltb failing (length xs) e)

  -- what a place that was found says
  found_at : (i : ℕ) → Some i ≡ position p xs → (i < length xs) × (failing ≡ i)
  found_at i h =
      ⊎_elim
      (λ (t : ltb failing (length xs) ≡ true).
      let e : Some i ≡ Some failing = rw t at h in
      let k : failing ≡ i = cc in
      (omega (arith, ltb-true failing (length xs) t), k))
      (λ (f : ltb failing (length xs) ≡ false). absurd (some_not_none (Some i) i refl (rw f at h)))
      (cases_Bool (nat_lt failing (length xs)))

  pub first_within : (i : ℕ) → Some i ≡ position p xs → i < length xs
  first_within i h = (found_at i h).0

  pub first_passes : (i : ℕ) (d : X) → Some i ≡ position p xs → p (slice_index_or xs i d) ≡ true
  first_passes i d h =
      let a = found_at i h in
      let s = leading_stops (λ x. not (p x)) xs d (omega (arith, a.0, a.1)) in
      not-false (p (slice_index_or xs i d)) (rw a.1 at s)

  -- what it says that none was found
  pub none_passes : None ≡ position p xs → AllByRecursion (λ x. not (p x) ≡ true) xs
  none_passes h =
      ⊎_elim
      (λ (t : ltb failing (length xs) ≡ true). absurd (some_not_none (Some failing) failing refl (sym (rw t at h))))
      (λ (f : ltb failing (length xs) ≡ false). leading_all (λ x. not (p x)) xs (ltb-false failing (length xs) f))
      (cases_Bool (nat_lt failing (length xs)))

  -- the same, place by place
  pub all_fail : None ≡ position p xs → All (λ x. p x ≡ false) xs
  all_fail h =
      ⊎_elim
      (λ (t : ltb (position_or_len p xs) (length xs) ≡ true).
      absurd (some_not_none (Some (position_or_len p xs)) (position_or_len p xs) refl (sym (rw t at h))))
      (λ (f : ltb (position_or_len p xs) (length xs) ≡ false) k d l. fails_before_first p xs k d (omega (arith, ltb-false (position_or_len p xs) (length xs) f)))
      (cases_Bool (nat_lt (position_or_len p xs) (length xs)))
