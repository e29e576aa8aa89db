-- What a row of slots holds, and what the change of one slot makes of it. Assumes nothing.
use Rattle.std.specs.Prelude.{◌≡◌, ℕ, zero, suc, ◌+◌, ◌<◌, ◌≤◌, true, false, List, [], ◌∷◌, ◌++◌, length, take, drop, is_some, Some, None, Option, ◌==◌, nat_eq, slice_index_or, slice_set, position, refl}
use Rattle.std.proofs.Common.{sym, ap, ◌∙◌, ⊎_elim, append_assoc, arith, length-set}
use Rattle.std.specs.List.{AllByRecursion}
use Rattle.std.proofs.lemmas.List.{flat_map_more, length-take-le, set-get_or, take_more_set}
use Rattle.std.proofs.lemmas.List.Elements.{recursion_from_All}
use Rattle.std.proofs.lemmas.Bool.{cases_Bool, eqb-true}
use Rattle.store.specs.Meaning.{Allowed, with, without}
use Rattle.store.specs.Listing.{Entry, entry, lookup, distinct, total}
use Rattle.store.proofs.Listed.{some_not_none, lookup_insert, distinct_insert, total_insert, removed, lookup_removed, lookup_there}
use Rattle.slot_store.specs.declared.slot.Message.{Message}
use Rattle.slot_store.specs.Slots.{one_unit, Slot, is_free, holds_number, bytes_of, held_by, only, messages, Changed}
use Rattle.slot_store.specs.First.{first_within, first_passes, all_fail}

-- the messages before a place
abbrev before : List Slot → ℕ → List Entry
before xs i = messages (take i xs)

-- and those behind it
abbrev behind : List Slot → ℕ → List Entry
behind xs i = messages (drop (suc i) xs)

split_set : (xs : List Slot) (i : ℕ) (y : Slot) → i < length xs → messages (slice_set xs i y) ≡ before xs i ++ (held_by y ++ behind xs i)
split_set [] i y h = absurd (omega arith)
split_set (x ∷ xs) zero y h = refl
split_set (x ∷ xs) (suc i) y h =
    ap (λ l. held_by x ++ l) (split_set xs i y (omega arith)) ∙ sym (append_assoc (held_by x) (before xs i) (held_by y ++ behind xs i))

split_at : (xs : List Slot) (i : ℕ) (d : Slot) → i < length xs → messages xs ≡ before xs i ++ (held_by (slice_index_or xs i d) ++ behind xs i)
split_at xs i d h = ap messages (sym (set-get_or xs i d)) ∙ split_set xs i (slice_index_or xs i d) h

split_changed : (xs ys : List Slot) (i : ℕ) (held : List Entry) → i < length xs → Changed xs i held ys → messages ys ≡ before xs i ++ (held ++ behind xs i)
split_changed xs ys i held h ch = ap messages ch.changes ∙ split_set xs i ch.slot h ∙ ap (λ l. before xs i ++ (l ++ behind xs i)) ch.holds

-- a free slot holds nothing
pub free_none : (x : Slot) → is_free x ≡ true → held_by x ≡ []
free_none None h = refl
free_none (Some m) h = let z : ◌≡◌ {A = ℕ} 0 1 = cc in absurd (omega arith)

-- at the first free slot nothing stands between
split_free : (xs : List Slot) (i : ℕ) → Some i ≡ position is_free xs → messages xs ≡ before xs i ++ behind xs i
split_free xs i at' = split_at xs i None (first_within is_free xs i at') ∙ rw (free_none (slice_index_or xs i None) (first_passes is_free xs i None at'))

-- where a slot holds a number, the message in it
pub record In (n : ℕ) (x : Slot) : Type 0 where
  pub message : Message
  pub is : x ≡ Some message
  pub number : n ≡ message.number

in_slot : (n : ℕ) (x : Slot) → holds_number n x ≡ true → In n x
in_slot n None h = let z : ◌≡◌ {A = ℕ} 0 1 = cc in absurd (omega arith)
in_slot n (Some m) h = record { message = m; is = refl; number = eqb-true n m.number h }

pub at_number : (xs : List Slot) (i n : ℕ) (d : Slot) → Some i ≡ position (holds_number n) xs → In n (slice_index_or xs i d)
at_number xs i n d at' = in_slot n (slice_index_or xs i d) (first_passes (holds_number n) xs i d at')

split_held : (xs : List Slot) (i n : ℕ) (d : Slot) (at' : Some i ≡ position (holds_number n) xs) → messages xs ≡ before xs i ++ entry n (bytes_of (at_number xs i n d at').message) ∷ behind xs i
split_held xs i n d at' =
    let x = at_number xs i n d at' in
    split_at xs i d (first_within (holds_number n) xs i at') ∙ ap (λ s. before xs i ++ (held_by s ++ behind xs i)) x.is
    ∙ ap (λ k. before xs i ++ entry k (bytes_of x.message) ∷ behind xs i) (sym x.number)

-- a number that no slot holds
absent_all : (n : ℕ) (xs : List Slot) → AllByRecursion (λ x. holds_number n x ≡ false) xs → lookup (messages xs) n ≡ None
absent_all n [] h = refl
absent_all n (None ∷ xs) h = absent_all n xs h.1
absent_all n (Some m ∷ xs) h = let a : nat_eq n m.number ≡ false = h.0 in rw a (absent_all n xs h.1)

pub absent : (n : ℕ) (xs : List Slot) → None ≡ position (holds_number n) xs → lookup (messages xs) n ≡ None
absent n xs h = absent_all n xs (recursion_from_All (λ x. holds_number n x ≡ false) xs (all_fail (holds_number n) xs h))

-- a number that a slot holds
pub there : (xs : List Slot) (i n : ℕ) (d : Slot) → distinct (messages xs) ≡ true → (at' : Some i ≡ position (holds_number n) xs) → lookup (messages xs) n ≡ Some (bytes_of (at_number xs i n d at').message)
there xs i n d once at' =
    let old = split_held xs i n d at' in
    rw old (lookup_there (before xs i) (behind xs i) (entry n (bytes_of (at_number xs i n d at').message)) (rw old at once))

-- whether a search found the number
pub present : (n : ℕ) (xs : List Slot) (o : Option ℕ) → distinct (messages xs) ≡ true → o ≡ position (holds_number n) xs → true ≡ is_some o → is_some (lookup (messages xs) n) ≡ true
present n xs None once at' e = let z : ◌≡◌ {A = ℕ} 0 1 = cc in absurd (omega arith)
present n xs (Some i) once at' e = ap is_some (there xs i n None once at')

pub missing : (n : ℕ) (xs : List Slot) (o : Option ℕ) → o ≡ position (holds_number n) xs → false ≡ is_some o → lookup (messages xs) n ≡ None
missing n xs None at' e = absent n xs at'
missing n xs (Some i) at' e = let z : ◌≡◌ {A = ℕ} 0 1 = cc in absurd (omega arith)

-- at most one unit for each slot, and just one for each where none is free
pub bounded : (xs : List Slot) → total one_unit (messages xs) ≤ length xs
bounded [] = omega arith
bounded (None ∷ xs) = omega (arith, bounded xs)
bounded (Some m ∷ xs) = omega (arith, bounded xs)

full_all : (xs : List Slot) → AllByRecursion (λ x. is_free x ≡ false) xs → total one_unit (messages xs) ≡ length xs
full_all [] h = refl
full_all (None ∷ xs) h = let f = h.0 in let z : ◌≡◌ {A = ℕ} 0 1 = cc in absurd (omega arith)
full_all (Some m ∷ xs) h = omega (arith, full_all xs h.1)

pub full : (xs : List Slot) → None ≡ position is_free xs → total one_unit (messages xs) ≡ length xs
full xs h = full_all xs (recursion_from_All (λ x. is_free x ≡ false) xs (all_fail is_free xs h))

-- one message more
pub record More (xs ys : List Slot) (n : ℕ) (bytes : List ℕ) : Type 0 where
  pub long : length ys ≡ length xs
  pub once : distinct (messages ys) ≡ true
  pub count : total one_unit (messages ys) ≡ total one_unit (messages xs) + 1
  pub next : (m : ℕ) → lookup (messages ys) m ≡ with (lookup (messages xs)) n bytes m

pub more : (xs ys : List Slot) (i n : ℕ) (bytes : List ℕ) → distinct (messages xs) ≡ true → lookup (messages xs) n ≡ None → Some i ≡ position is_free xs → Changed xs i (only n bytes) ys → More xs ys n bytes
more xs ys i n bytes once none at' ch =
    let front = before xs i in
    let back = behind xs i in
    let old = split_free xs i at' in
    let new = split_changed xs ys i (only n bytes) (first_within is_free xs i at') ch in
    let none' : lookup (front ++ back) n ≡ None = rw old at none in
    record {
      long = ap length ch.changes ∙ length-set xs i ch.slot;
      once = rw new (distinct_insert front back (entry n bytes) none' (rw old at once));
      count = rw (new, old) (total_insert one_unit front back (entry n bytes));
      next = λ m. rw (new, old) (lookup_insert front back (entry n bytes) m none');
    }

-- one message less
pub record Less (xs ys : List Slot) (n : ℕ) : Type 0 where
  pub long : length ys ≡ length xs
  pub once : distinct (messages ys) ≡ true
  pub count : total one_unit (messages xs) ≡ total one_unit (messages ys) + 1
  pub next : (m : ℕ) → lookup (messages ys) m ≡ without (lookup (messages xs)) n m

pub less : (xs ys : List Slot) (i n : ℕ) → distinct (messages xs) ≡ true → Some i ≡ position (holds_number n) xs → Changed xs i [] ys → Less xs ys n
less xs ys i n once at' ch =
    let front = before xs i in
    let back = behind xs i in
    let e = entry n (bytes_of (at_number xs i n None at').message) in
    let old = split_held xs i n None at' in
    let new = split_changed xs ys i [] (first_within (holds_number n) xs i at') ch in
    let once' : distinct (front ++ e ∷ back) ≡ true = rw old at once in
    record {
      long = ap length ch.changes ∙ length-set xs i ch.slot;
      once = rw new (removed front back e once').1;
      count = rw (new, old) (total_insert one_unit front back e);
      next = λ m. rw (new, old) (lookup_removed front back e m once');
    }

-- a loop that leaves each slot free; the one of this crate stops earlier, and does without it
pub empty_more : (xs : List Slot) (i : ℕ) (y : Slot) → i < length xs → messages (take i xs) ≡ [] → held_by y ≡ [] → messages (take (i + 1) (slice_set xs i y)) ≡ []
empty_more xs i y h none is =
    ap messages (take_more_set xs i y h) ∙ sym (flat_map_more held_by [] (take i xs) y) ∙ rw (none, is)

-- a loop that frees slots may end where no slot behind it holds a message
none_left : (xs : List Slot) → total one_unit (messages xs) ≡ 0 → messages xs ≡ []
none_left [] h = refl
none_left (None ∷ xs) h = none_left xs h
none_left (Some m ∷ xs) h = absurd (omega (arith, h))

pub emptied : (xs : List Slot) (i : ℕ) → messages (take i xs) ≡ [] → total one_unit (messages (drop i xs)) ≡ 0 → messages xs ≡ []
emptied xs zero h left = none_left xs left
emptied [] (suc i) h left = refl
emptied (None ∷ xs) (suc i) h left = emptied xs i h left
emptied (Some m ∷ xs) (suc i) h left = absurd (omega (arith, ap length h))

-- what is held has a number and a length that are allowed
pub held_allowed : (n : ℕ) (b : List ℕ) (xs : List Slot) → lookup (messages xs) n ≡ Some b → (n ≤ 4294967295) × Allowed (length b)
held_allowed n b [] h = absurd (some_not_none None b h refl)
held_allowed n b (None ∷ xs) h = held_allowed n b xs h
held_allowed n b (Some m ∷ xs) h =
    ⊎_elim
    (λ (t : nat_eq n m.number ≡ true).
    let e : ◌≡◌ {A = Option (List ℕ)} (Some (bytes_of m)) (Some b) = rw t at h in
    let is : bytes_of m ≡ b = cc in
    let long : length (bytes_of m) ≡ m.length = length-take-le m.length m.bytes (omega (arith, m.short, m.whole)) in (
      omega (arith, eqb-true n m.number t, m.small),
      record { some = omega (arith, ap length is, long, m.some); short = omega (arith, ap length is, long, m.short) },
    ))
    (λ (g : nat_eq n m.number ≡ false). held_allowed n b xs (rw g at h))
    (cases_Bool (n == m.number))
