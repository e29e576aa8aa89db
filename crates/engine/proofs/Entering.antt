-- Where a task enters the ready list. Assumes nothing.
use Rattle.std.proofs.Common.{◌≡◌, ℕ, suc, ◌+◌, ◌≤◌, Bool, true, false, cond, not, ◌||◌, ◌==◌, nat_lt, List, [], ◌∷◌, length, Some, None, Option, unwrap_or, refl, ap, ◌∙◌, arith}
use Rattle.std.proofs.lemmas.List.Sums.{prefix_len-le-length}
use Rattle.std.proofs.lemmas.Bool.Decides.{nat_tests}
use Rattle.std.specs.List.{insert, position, position_or_len}
use Rattle.art.specs.declared.task.Task.{Task}
use Rattle.art.specs.State.{Kind}
use Rattle.art.specs.Verbs.{urgent, entered}

module _ (kind : Kind) (tasks : ℕ → Option Task) (t : ℕ) where
  -- t goes in front of u
  abbrev pub Passes : ℕ → Bool
  Passes u = u == 0 || urgent kind (tasks t) (tasks u)

  -- one step of the search for the first that t passes
  step : (u n : ℕ) (us r : List ℕ) (b : Bool) → insert us n t ≡ r → insert (u ∷ us) (cond (not b) (1 + n) 0) t ≡ cond b (t ∷ u ∷ us) (u ∷ r)
  step u n us r true e = refl
  step u n us r false e =
      let more : 1 + n ≡ suc n = omega arith in
      ap (λ k. insert (u ∷ us) k t) more ∙ ap (λ l. u ∷ l) e

  in_front : (us : List ℕ) → insert us (position_or_len Passes us) t ≡ entered kind tasks t us
  unfolding entered
  in_front [] = refl
  in_front (u ∷ us) = step u (position_or_len Passes us) us (entered kind tasks t us) (Passes u) (in_front us)

  -- the first that t passes, or the end
  found_or_end : (n l : ℕ) (b : Bool) → n ≤ l → nat_lt n l ≡ b → unwrap_or (cond b (Some n) None) l ≡ n
  found_or_end n l true h e = refl
  found_or_end n l false h e = grind (arith, nat_tests)

  pub enters : (us : List ℕ) (r : Option ℕ) (n : ℕ) → r ≡ position Passes us → n ≡ unwrap_or r (length us) → insert us n t ≡ entered kind tasks t us
  enters us r n e f =
      let p = position_or_len Passes us in
      ap (λ m. insert us m t) (f ∙ ap (λ o. unwrap_or o (length us)) e ∙ found_or_end p (length us) (nat_lt p (length us)) (prefix_len-le-length (λ u. not (Passes u)) us) refl)
      ∙ in_front us
