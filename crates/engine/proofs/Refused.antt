-- The exit of a `?` in a call, where rows that were tried refuse it; what is left to show where they let it pass.
-- Assumes nothing.
use Rattle.std.proofs.Common.{◌≡◌, ℕ, ◌≤◌, Bool, true, false, cond, List, [], ◌∷◌, ◌++◌, Ok, Err, Option, Result, sym, subst, refl, arith}
use Rattle.std.specs.Result.{IsErrAnd, MatchResult}
use Rattle.std.proofs.lemmas.Bool.{le-ltb}
use Rattle.std.proofs.lemmas.Result.{err_from_is_err_and}
use Rattle.store.specs.Refusal.{Row, Told, tried}
use Rattle.refusals.specs.declared.refusal.Refusal.{Refusal}
use Rattle.refusals.specs.Refusals.{outcome, told}
use Rattle.answers.specs.declared.answer.Answer.{Answer}
use Rattle.art.specs.declared.task.Message.{Message}
use Rattle.art.specs.State.{Kind, State, top}
use Rattle.art.specs.Rules.{Answered, Effect, Reply, unless}
use Rattle.art.proofs.Tried.{accepted_by, refused_by}
use Rattle.engine.specs.Model.{Gives, numbered, posted}

module _ (s : State) (buffer : List ℕ) (rows : List Row) (rest : Effect) {A : Type 0} (z : A) where
  -- the refusal x is passed on
  pub refused : (x : Refusal) (r : Result Answer Refusal) → Err (told x) ≡ tried rows z → IsErrAnd r (λ y. y ≡ x) → Gives (unless s buffer rows rest) (Answered (outcome r)) buffer s
  refused x r e h =
      let p = err_from_is_err_and r h in
      rw (p.1, p.2, refused_by z s buffer rows rest (told x) (sym e)) (record { answers = refl; leaves = refl; moves = refl })

  -- the call goes on
  pub past : (y : A) (r : Reply) (left : List ℕ) (after : State) → Ok y ≡ tried rows z → Gives rest r left after → Gives (unless s buffer rows rest) r left after
  past y r left after e g = subst (λ (f : Effect). Gives f r left after) (sym (accepted_by z s buffer rows rest y (sym e))) g

module _ {A : Type 0} (z : A) (more : List Row) (t : Told) where
  row_first : (b : Bool) (u : Told) (o o' : Result A Told) → Err t ≡ cond b (Err u) o → (Err t ≡ o → Err t ≡ o') → Err t ≡ cond b (Err u) o'
  row_first true u o o' q g = q
  row_first false u o o' q g = g q

  -- what the first rows refuse is refused where there are more
  still_refused : (rows : List Row) → Err t ≡ tried rows z → Err t ≡ tried (rows ++ more) z
  still_refused [] q = let n : ◌≡◌ {A = ℕ} 0 1 = cc in absurd (omega arith)
  still_refused (r ∷ rows) q = row_first r.holds r.tells (tried rows z) (tried (rows ++ more) z) q (still_refused rows)

-- the same, passed on
pub refused_first : {A B : Type 0} (P : B → Type 0) (rows more : List Row) (z : A) (x : Refusal) (r : Result B Refusal) → Err (told x) ≡ tried rows z → IsErrAnd r (λ y. y ≡ x) → MatchResult r P (λ y. Err (told y) ≡ tried (rows ++ more) z)
refused_first P rows more z x r e h =
    let p = err_from_is_err_and r h in
    rw (p.1, p.2) (still_refused z more (told x) rows e)

-- no row held, so the value is the one that was to be answered
row_none : {A : Type 0} (y z : A) (b : Bool) (u : Told) (o : Result A Told) → Ok y ≡ cond b (Err u) o → (Ok y ≡ o → y ≡ z) → y ≡ z
row_none y z true u o q g = let n : ◌≡◌ {A = ℕ} 0 1 = cc in absurd (omega arith)
row_none y z false u o q g = g q

pub value_tried : {A : Type 0} (rows : List Row) (y z : A) → Ok y ≡ tried rows z → y ≡ z
value_tried [] y z q = cc
value_tried (r ∷ rows) y z q = row_none y z r.holds r.tells (tried rows z) q (value_tried rows y z)

-- where the next message has a number, what is asked first holds back nothing
pub numbered_posted : (kind : Kind) (s : State) (m : ℕ) (bytes : List ℕ) (sender : Option ℕ) (x : Option Message) → s.next ≤ top → numbered kind s m bytes sender x ≡ posted kind s m bytes sender x
numbered_posted kind s m bytes sender x h = rw (le-ltb top s.next h) refl
