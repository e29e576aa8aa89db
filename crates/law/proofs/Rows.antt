-- Calls with rows: what holds of a refused call and of an accepted one, and what a test of an option or of a list tells.
use Rattle.std.proofs.Common.{◌≡◌, ℕ, true, false, not, List, [], ◌∷◌, ◌++◌, is_some, Some, None, Err, Option, refl}
use Rattle.std.proofs.lemmas.Bool.{cond_both, true≢false, false≢true, not-false}
use Rattle.store.specs.Refusal.{Told, Row}
use Rattle.art.specs.State.{State}
use Rattle.art.specs.Verbs.{is_empty}
use Rattle.art.specs.Rules.{Effect, Reply, Answered, unless}

-- Tests

pub none_from : {A : Type 0} (o : Option A) → is_some o ≡ false → o ≡ None
none_from None e = refl
none_from (Some x) e = absurd (true≢false e)

pub some_from : {A : Type 0} (o : Option A) → is_some o ≡ true → (x : A) × (o ≡ Some x)
some_from None e = absurd (false≢true e)
some_from (Some x) e = (x, refl)

pub some_unless_none : {A : Type 0} (o : Option A) → not (is_some o) ≡ false → (x : A) × (o ≡ Some x)
some_unless_none o e = some_from o (not-false (is_some o) e)

pub nil_from : {A : Type 0} (xs : List A) → is_empty xs ≡ true → xs ≡ []
nil_from [] e = refl
nil_from (x ∷ xs) e = absurd (false≢true e)

-- Rows

-- no row of a table holds
abbrev pub Clear : List Row → Type 0
Clear [] = Unit {0}
Clear (r ∷ rows) = (r.holds ≡ false) × Clear rows

-- what holds of a refused call and of an accepted one holds of a call with rows
pub tabled : (P : Effect → Type 0) (s : State) (buffer : List ℕ) (rows : List Row) (rest : Effect)
    → ((t : Told) → P (record { reply = Answered (Err t); state = s; buffer = buffer })) → (Clear rows → P rest) → P (unless s buffer rows rest)
tabled P s buffer [] rest refused accepted = accepted tt
tabled P s buffer (r ∷ rows) rest refused accepted =
    cond_both r.holds (record { reply = Answered (Err r.tells); state = s; buffer = buffer }) (unless s buffer rows rest) P
    (λ _. refused r.tells) (λ e. tabled P s buffer rows rest refused (λ c. accepted (e, c)))

-- rows of two tables, one after the other
pub clear_parts : (xs ys : List Row) → Clear (xs ++ ys) → Clear xs × Clear ys
clear_parts [] ys c = (tt, c)
clear_parts (x ∷ xs) ys c = ((c.0, (clear_parts xs ys c.1).0), (clear_parts xs ys c.1).1)

-- each row that is reached either does not hold or tells something good
abbrev pub Tries : (Told → Type 0) → List Row → Type 0
Tries P [] = Unit {0}
Tries P (r ∷ rows) = (r.holds ≡ true → P r.tells) × (r.holds ≡ false → Tries P rows)

-- what holds of each good refusal and of the answer of an accepted call holds of the answer of a call with rows
pub refusals : (P : Told → Type 0) (s : State) (buffer : List ℕ) (rows : List Row) (rest : Effect) → Tries P rows
    → (Q : Reply → Type 0) → ((t : Told) → P t → Q (Answered (Err t))) → Q rest.reply → Q (unless s buffer rows rest).reply
refusals P s buffer [] rest good Q refused accepted = accepted
refusals P s buffer (r ∷ rows) rest good Q refused accepted =
    cond_both r.holds (record { reply = Answered (Err r.tells); state = s; buffer = buffer }) (unless s buffer rows rest) (λ e. Q e.reply)
    (λ e. refused r.tells (good.0 e)) (λ e. refusals P s buffer rows rest (good.1 e) Q refused accepted)
