-- The first that passes is the one that leaves.
use Rattle.std.proofs.Common.{◌≡◌, ℕ, suc, ◌+◌, ◌<◌, ◌≤◌, Bool, true, false, cond, not, eqb, ltb, List, [], ◌∷◌, length, Some, None, refl, sym, ap, ◌∙◌, ⊎_elim, arith}
use Rattle.std.specs.List.{position, position_or_len}
use Rattle.std.specs.List as gap
use Rattle.std.proofs.lemmas.Bool.{cases_eq, eq-eqb, ne_eqb, ltb-true, ltb-false}
use Rattle.art.specs.declared.task.Message.{Message}
use Rattle.art.specs.Verbs.{removed, unqueued}
use Rattle.mailboxes.specs.Meaning.{Gap}

-- a comparison is the same from both sides
eqb_comm : (a b : ℕ) → eqb a b ≡ eqb b a
eqb_comm a b = ⊎_elim (λ e. eq-eqb a b e ∙ sym (eq-eqb b a (sym e))) (λ ne. ne_eqb a b ne ∙ sym (ne_eqb b a (λ e. ne (sym e)))) (cases_eq a b)

-- `without` leaves out the first that passes
module _ {A : Type 0} (pass : A → Bool) (without : List A → List A) (none : without [] ≡ []) (step : (x : A) (xs : List A) → without (x ∷ xs) ≡ cond (pass x) xs (x ∷ without xs)) where
  -- one more in front, where one passes, and where none does
  found_more : (b : Bool) (x : A) (xs : List A) (k : ℕ) → (k < length xs → without xs ≡ gap.remove xs k) → cond (not b) (1 + k) 0 < suc (length xs) → cond b xs (x ∷ without xs) ≡ gap.remove (x ∷ xs) (cond (not b) (1 + k) 0)
  found_more true x xs k ih h = refl
  found_more false x xs k ih h = let e : suc k ≡ 1 + k = omega arith in ap (λ l. x ∷ l) (ih (omega arith)) ∙ ap (gap.remove (x ∷ xs)) e

  none_more : (b : Bool) (x : A) (xs : List A) (k : ℕ) → (length xs ≤ k → without xs ≡ xs) → suc (length xs) ≤ cond (not b) (1 + k) 0 → cond b xs (x ∷ without xs) ≡ x ∷ xs
  none_more true x xs k ih h = absurd (omega arith)
  none_more false x xs k ih h = ap (λ l. x ∷ l) (ih (omega arith))

  found : (xs : List A) → position_or_len pass xs < length xs → without xs ≡ gap.remove xs (position_or_len pass xs)
  found [] h = absurd (omega arith)
  found (x ∷ xs) h = step x xs ∙ found_more (pass x) x xs (position_or_len pass xs) (found xs) h

  none_found : (xs : List A) → length xs ≤ position_or_len pass xs → without xs ≡ xs
  none_found [] h = none
  none_found (x ∷ xs) h = step x xs ∙ none_more (pass x) x xs (position_or_len pass xs) (none_found xs) h

  by_test : (xs : List A) (b : Bool) → ltb (position_or_len pass xs) (length xs) ≡ b → Gap xs (without xs) (cond b (Some (position_or_len pass xs)) None)
  by_test xs true e = (ltb-true _ _ e, found xs (ltb-true _ _ e))
  by_test xs false e = none_found xs (ltb-false _ _ e)

  gap_at : (xs : List A) → Gap xs (without xs) (position pass xs)
  gap_at xs = by_test xs (ltb (position_or_len pass xs) (length xs)) refl

-- message n in a queue, and task t among receivers
pub message_at : (n : ℕ) (xs : List Message) → Gap xs (unqueued n xs) (position (λ x. eqb x.number n) xs)
message_at n xs = gap_at (λ x. eqb x.number n) (unqueued n) refl (λ x xs. ap (λ b. cond b xs (x ∷ unqueued n xs)) (eqb_comm n x.number)) xs

pub receiver_at : (t : ℕ) (us : List ℕ) → Gap us (removed t us) (position (λ u. eqb u t) us)
receiver_at t us = gap_at (λ u. eqb u t) (removed t) refl (λ u us. ap (λ b. cond b us (u ∷ removed t us)) (eqb_comm t u)) us
