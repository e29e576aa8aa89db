-- Fates, the store and the five counts stay in balance at each turn.
use Rattle.std.proofs.Common.{◌≡◌, ℕ, ◌+◌, ◌≤◌, List, ◌∷◌, ◌++◌, length, sym, refl, ap, ◌∙◌, subst, ⊎_elim, arith, length-append}
use lib.ListN.{length-map}
use Rattle.std.proofs.lemmas.Bool.{cases_eq}
use Rattle.store.specs.Meaning.{Contents, units_in}
use Rattle.art.specs.State.{Kind, State, top, initial}
use Rattle.law.specs.History.{History, no_history}
use Rattle.law.specs.Law.{sum_of, count, queued, given, accepted, handed_over, holds, of_mailboxes, of_tasks}
use Rattle.law.proofs.Counting.{count_self, count_other, count_append, sum_agree, same_length}
use Rattle.law.proofs.Sound.{Balanced, Counted, Sound}
use Rattle.law.proofs.Turn.{Turn}
use Rattle.law.proofs.Moved.{weight, one, Numbered, none_used, next_used, Moved, Moves, single, double, moves}

-- At the start

pub first_balanced : (kind : Kind) (n : ℕ) → Balanced kind n (initial n) no_history
unfolding of_mailboxes of_tasks
first_balanced kind n = record {
  parted = λ _. refl;
  once = λ _. omega arith;
  new = λ _ _. refl;
  used_up = omega arith;
  few = omega arith;
  fetched = λ _. refl;
  stored = λ _. refl;
  units = refl;
  room = omega arith;
}

pub first_counted : (n : ℕ) → Counted (initial n) no_history
unfolding of_mailboxes
first_counted n = record { of_accepted = refl; of_queued = refl; of_handed_over = refl; of_withdrawn = refl; of_displaced = refl }

-- Fates

many : (h : History) → length (accepted h) ≡ length h.accepted
many h = length-map h.accepted (λ a. a.number)

pub total_holds : (kind : Kind) (first : ℕ) (s : State) (h : History) → Balanced kind first s h
    → length h.accepted ≡ length (queued s) + (length h.handed_over + (length h.withdrawn + length h.displaced))
total_holds kind first s h b =
    let rest : List ℕ = h.withdrawn ++ h.displaced in
    let all : List ℕ = queued s ++ (handed_over h ++ rest) in
    let same : (k : ℕ) → count k (accepted h) ≡ count k all = λ k. omega (
      arith,
      b.parted k,
      count_append k (queued s) (handed_over h ++ rest),
      count_append k (handed_over h) rest,
      count_append k h.withdrawn h.displaced,
    ) in
    omega (
      arith,
      same_length (accepted h) all same,
      many h,
      length-map h.handed_over (λ x. x.number),
      length-append (queued s) (handed_over h ++ rest),
      length-append (handed_over h) rest,
      length-append h.withdrawn h.displaced,
    )

-- each number is used once, and none from the next on
record Used (first next : ℕ) (l : List ℕ) : Type 0 where
  once : (k : ℕ) → count k l ≤ 1
  new : (k : ℕ) → next ≤ k → count k l ≡ 0
  used_up : first + length l ≡ next
  few : length l ≤ top + 1

numbers_used : (first next : ℕ) (l : List ℕ) → Used first next l → (next' : ℕ) (l' : List ℕ) → Numbered next l next' l' → Used first next' l'
numbers_used first next l u _ _ none_used = u
numbers_used first next l u _ _ (next_used unspent) = record {
  once = λ k. ⊎_elim (λ e. subst (λ i. count i (next ∷ l) ≤ 1) (sym e) (omega (arith, count_self next l, u.new next (omega arith))))
      (λ ne. omega (arith, count_other k next l ne, u.once k)) (cases_eq k next);
  new = λ k more. count_other k next l (λ e. omega arith) ∙ u.new k (omega arith);
  used_up = omega arith;
  few = omega arith;
}

module _ {kind : Kind} {first : ℕ} {s s' : State} {h h' : History} (b : Balanced kind first s h) (m : Moved kind s s' h h') where
  numbered : Used first s'.next (accepted h')
  numbered = numbers_used first s.next (accepted h)
      (record { once = b.once; new = b.new; used_up = omega (arith, b.used_up, many h); few = omega (arith, b.few, many h) })
      s'.next (accepted h') m.numbers

  stored : (k : ℕ) → holds (s'.held k) ≡ count k (queued s') + count k (given s')
  stored k = omega (arith, b.stored k, m.store.numbers k, m.queues (one k), m.gifts (one k))

  -- the units of a list of messages that are held
  units_among : (held : Contents) (xs : List ℕ) → ((k : ℕ) → 1 ≤ holds (held k) → m.store.all k ≡ held k) → ((k : ℕ) → 1 ≤ count k xs → 1 ≤ holds (held k))
      → sum_of (weight kind held) xs ≡ sum_of (weight kind m.store.all) xs
  units_among held xs e l = sum_agree (weight kind held) (weight kind m.store.all) xs (λ k i. sym (ap (units_in kind.cost) (e k (l k i))))

  kept : Balanced kind first s' h'
  kept = record {
    parted = λ k. omega (arith, b.parted k, m.queues (one k));
    once = numbered.once;
    new = numbered.new;
    used_up = omega (arith, numbered.used_up, many h');
    few = omega (arith, numbered.few, many h');
    fetched = λ k. omega (arith, b.fetched k, m.gifts (one k));
    stored = stored;
    units = omega (
      arith,
      b.units,
      m.store.units,
      m.queues (weight kind m.store.all),
      m.gifts (weight kind m.store.all),
      units_among s.held (queued s) m.store.before (λ k i. omega (arith, b.stored k)),
      units_among s.held (given s) m.store.before (λ k i. omega (arith, b.stored k)),
      units_among s'.held (queued s') m.store.after (λ k i. omega (arith, stored k)),
      units_among s'.held (given s') m.store.after (λ k i. omega (arith, stored k)),
    );
    room = m.store.room;
  }

  counted : Counted s h → Counted s' h'
  counted c = m.counts c (total_holds kind first s h b) (total_holds kind first s' h' kept) kept.few

pub keep_balanced : (kind : Kind) (first : ℕ) (s s' : State) (h h' : History) → Sound kind first s h → Turn kind s h s' h' → Balanced kind first s' h'
keep_balanced kind first s s' h h' w turn = go (moves kind first s s' h h' w turn)
  where
    go : Moves kind s s' h h' → Balanced kind first s' h'
    go (single m) = kept w.balanced m
    go (double _ _ m n) = kept (kept w.balanced m) n

pub keep_counted : (kind : Kind) (first : ℕ) (s s' : State) (h h' : History) → Sound kind first s h → Turn kind s h s' h' → Counted s' h'
keep_counted kind first s s' h h' w turn = go (moves kind first s s' h h' w turn)
  where
    go : Moves kind s s' h h' → Counted s' h'
    go (single m) = counted w.balanced m w.counted
    go (double _ _ m n) = counted (kept w.balanced m) n (counted w.balanced m w.counted)
