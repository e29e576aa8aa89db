-- Rows that are tried, and the effect of the call that has them. Assumes nothing.
use Rattle.std.proofs.Common.{◌≡◌, ℕ, true, false, List, [], ◌∷◌, Ok, Err, Result, refl, ⊎_elim, arith}
use Rattle.std.proofs.lemmas.Bool.{cases_Bool}
use Rattle.store.specs.Refusal.{Told, Row, tried}
use Rattle.art.specs.State.{State}
use Rattle.art.specs.Rules.{Effect, Answered, unless}

module _ {A : Type 0} (x : A) where
  ok_not_err : (o : Result A Told) (y : A) (t : Told) → o ≡ Ok y → o ≡ Err t → ⊥
  ok_not_err o y t p q = let z : ◌≡◌ {A = ℕ} 0 1 = cc in omega arith

  -- a row refuses
  pub refused_by : (s : State) (buffer : List ℕ) (rows : List Row) (rest : Effect) (t : Told) → tried rows x ≡ Err t → unless s buffer rows rest ≡ record { reply = Answered (Err t); state = s; buffer = buffer }
  refused_by s buffer [] rest t e = absurd (ok_not_err (Ok x) x t refl e)
  refused_by s buffer (r ∷ rows) rest t e =
      ⊎_elim
      (λ (h : r.holds ≡ true).
      let i : ◌≡◌ {A = Result A Told} (Err r.tells) (Err t) = rw h at e in
      let k : r.tells ≡ t = cc in
      rw (h, k))
      (λ (h : r.holds ≡ false). rw h (refused_by s buffer rows rest t (rw h at e)))
      (cases_Bool r.holds)

  -- no row does
  pub accepted_by : (s : State) (buffer : List ℕ) (rows : List Row) (rest : Effect) (y : A) → tried rows x ≡ Ok y → unless s buffer rows rest ≡ rest
  accepted_by s buffer [] rest y e = refl
  accepted_by s buffer (r ∷ rows) rest y e =
      ⊎_elim
      (λ (h : r.holds ≡ true). absurd (ok_not_err (Err r.tells) y r.tells (rw h at e) refl))
      (λ (h : r.holds ≡ false). rw h (accepted_by s buffer rows rest y (rw h at e)))
      (cases_Bool r.holds)

  -- what an accepted call says of its first row, and of the others
  pub passes : (r : Row) (rows : List Row) (y : A) → tried (r ∷ rows) x ≡ Ok y → (r.holds ≡ false) × (tried rows x ≡ Ok y)
  passes r rows y e =
      ⊎_elim
      (λ (h : r.holds ≡ true). absurd (ok_not_err (Err r.tells) y r.tells (rw h at e) refl))
      (λ (h : r.holds ≡ false). (h, rw h at e))
      (cases_Bool r.holds)
