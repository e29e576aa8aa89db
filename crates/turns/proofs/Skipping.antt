-- The second item of what is left, and a fact that an error brings.
use Rattle.std.proofs.Common.{◌≡◌, ℕ, ◌≤◌, List, [], ◌∷◌, length, Option, Some, None, String, Global, string_bytes, Ok, Err, Result, IfErr, ap, ◌∙◌, arith}
use Rattle.std.specs.Iterator.{SkipsThenYields, Yields}
use Rattle.std.specs.Vec.Iter.{into_iter_items, into_iter_steps}
use Rattle.std.specs.declared.vec.IntoIter.{IntoIter}
use Rattle.turns.specs.Line.{kind_text, ReadsKind, ReadsNext, Says}
use Rattle.turns.specs.declared.arguments.StoreKind.{StoreKind}
use Rattle.turns.specs.declared.arguments.StoreKind.TheVariants.{Slot, Packed}

-- one item was passed over, and the next is k
pub second_is : {A Z : Type 0} (s : IntoIter A Z) (k : A) (u : IntoIter A Z) (xs : List A) (t : IntoIter A Z) → Yields (into_iter_steps {X = A} {Z = Z}) s xs t → into_iter_steps t (Some k) u → length xs ≡ 1 → (p : A) × (into_iter_items s ≡ p ∷ k ∷ into_iter_items u)
second_is s k u [] t y h e = absurd (omega (arith, e))
second_is s k u (p ∷ []) t y h e = (p, y.1.0 ∙ ap (λ l. p ∷ l) (ap into_iter_items y.2 ∙ h.0))
second_is s k u (p ∷ q ∷ ys) t y h e = absurd (omega (arith, e))

-- at most one item was passed over, and then there was none
pub no_second : {A Z : Type 0} (s : IntoIter A Z) (u : IntoIter A Z) (xs : List A) (t : IntoIter A Z) → Yields (into_iter_steps {X = A} {Z = Z}) s xs t → into_iter_steps t None u → length xs ≤ 1 → length (into_iter_items s) ≤ 1
no_second s u [] t y h e = omega (arith, ap (λ i. length (into_iter_items i)) y, t.rest.ok.0, h.0)
no_second s u (p ∷ []) t y h e = omega (arith, ap length (y.1.0), ap (λ i. length (into_iter_items i)) y.2, t.rest.ok.0, h.0)
no_second s u (p ∷ q ∷ ys) t y h e = absurd (omega (arith, e))

-- the words of a whole line, one read after another
pub says : {T N TE NE UE : Type 0} (reads_turn : List ℕ → Result T TE → Type 0) (reads_beside : List ℕ → Result N NE → Type 0) (reads_turns : List ℕ → Result ℕ UE → Type 0) (s w t b u : IntoIter (String Global) Global) (r : Option (String Global)) (word : String Global) (kind : StoreKind) (turn : T) (beside : N) (turns : ℕ) → SkipsThenYields (into_iter_steps {X = String Global} {Z = Global}) s 1 r w → r ≡ Some word → ReadsKind (string_bytes word) (Ok kind) → ReadsNext reads_turn (into_iter_items w) (into_iter_items t) turn → ReadsNext reads_beside (into_iter_items t) (into_iter_items b) beside → ReadsNext reads_turns (into_iter_items b) (into_iter_items u) turns → Says reads_turn reads_beside reads_turns (into_iter_items s) kind turn beside turns
says reads_turn reads_beside reads_turns s w t b u r word kind turn beside turns n k v x y z =
    let m = rw k at n in
    let e = second_is s word w m.0 m.1.0 m.1.1 m.1.2 m.2 in
    record {
      program = e.0;
      kind_word = word;
      turn_word = x.0;
      beside_word = y.0;
      turns_word = z.0;
      more = into_iter_items u;
      line = e.1 ∙ ap (λ l. e.0 ∷ word ∷ l) (x.1 ∙ ap (λ l. x.0 ∷ l) (y.1 ∙ ap (λ l. y.0 ∷ l) z.1));
      kind_read = v;
      turn_read = x.2;
      beside_read = y.2;
      turns_read = z.2;
    }

-- what holds of a list holds of its equal
pub at_equal : {A : Type 0} (P : List A → Type 0) (xs ys : List A) → xs ≡ ys → P ys → P xs
at_equal P xs ys e p = rw e p

-- what holds anyhow holds at an error
pub if_err : {A E X : Type 0} (r : Result A E) → X → IfErr r (λ _. X)
if_err (Ok a) x = tt
if_err (Err e) x = x

-- what is neither word names no kind of store
pub names_none : (word : List ℕ) → ¬ word ≡ kind_text Slot → ¬ word ≡ kind_text Packed → (kind : StoreKind) → ¬ word ≡ kind_text kind
names_none word s p Slot = s
names_none word s p Packed = p
