-- No ready task but task 0 goes before one in front of it, and task 0 is the last: the ready list by turns, and what follows for the running task.
use Rattle.std.proofs.Common.{◌≡◌, ℕ, ◌≤◌, Bool, true, false, ◌||◌, eqb, List, [], ◌∷◌, Some, None, Option, sym, refl, ap, ◌∙◌, ap₂, ⊎_elim, arith}
use Rattle.std.proofs.lemmas.Bool.{both_ways, cases_eq, cond_both, eqb-false, eqb-true, or_cases, or_parts}
use Rattle.art.specs.declared.task.Activity.{Activity}
use Rattle.art.specs.declared.task.Task.{Task}
use Rattle.art.specs.declared.task.Urgency.{Urgency}
use Rattle.art.specs.State.{Kind, OrderRules, State, changed, first as front, initial, running}
use Rattle.art.specs.Verbs.{entered, removed, urgent}
use Rattle.law.specs.History.{History}
use Rattle.law.specs.Law.{count}
use Rattle.law.proofs.Counting.{changed_both, changed_other, count_entered, count_other, count_self, removed_other, removed_same}
use Rattle.law.proofs.Sound.{Behind, Ordered, Sound, Tasks, by, readies}
use Rattle.law.proofs.Turn.{answered, Runs, Turn, stay, clock, create, finish, sleep, hurry, open_box, close_box, tell, tell_plain, fetch, await, take_plain, take_wake, queue_plain, queue_over, queue_wait, hand, waken, give_up, withdraw}

removed_less : (v t : ℕ) (l : List ℕ) → count v (removed t l) ≤ count v l
removed_less v t l = ⊎_elim (λ e. omega (arith, removed_same t l, ap (λ i. count i (removed t l)) e, ap (λ i. count i l) e)) (λ ne. omega (arith, removed_other v t l ne)) (cases_eq v t)

-- what of a task decides how urgent it is
abbrev urgency_of : Option Task → Option Urgency
urgency_of None = None
urgency_of (Some x) = Some x.urgency

module _ (kind : Kind) where
  goes_before : Option Urgency → Option Urgency → Bool
  goes_before None b = false
  goes_before (Some a) None = false
  goes_before (Some a) (Some b) = kind.before a b

  by_urgency : (o p : Option Task) → urgent kind o p ≡ goes_before (urgency_of o) (urgency_of p)
  unfolding goes_before
  by_urgency None p = refl
  by_urgency (Some a) None = refl
  by_urgency (Some a) (Some b) = refl

  -- Lists in order

  has_idle : (tasks : Tasks) (l : List ℕ) → Ordered kind tasks l → 1 ≤ count 0 l
  has_idle tasks [] o = absurd o
  has_idle tasks (u ∷ []) o = omega (arith, ap (λ i. count 0 (i ∷ [])) o, count_self 0 [])
  has_idle tasks (u ∷ (v ∷ vs)) o = omega (arith, has_idle tasks (v ∷ vs) o.2)

  -- a task in front of a list in order
  ordered_cons : (tasks : Tasks) (u : ℕ) (l : List ℕ) → (u ≡ 0 → ⊥) → Behind kind tasks u l → Ordered kind tasks l → Ordered kind tasks (u ∷ l)
  ordered_cons tasks u [] ne b o = absurd o
  ordered_cons tasks u (v ∷ vs) ne b o = (ne, b, o)

  -- tasks change, those of the list in nothing that decides how urgent they are
  ordered_like : (tasks tasks' : Tasks) (l : List ℕ) → ((v : ℕ) → 1 ≤ count v l → urgency_of (tasks' v) ≡ urgency_of (tasks v)) → Ordered kind tasks l → Ordered kind tasks' l
  ordered_like tasks tasks' [] h o = o
  ordered_like tasks tasks' (u ∷ []) h o = o
  ordered_like tasks tasks' (u ∷ (v ∷ vs)) h o = (
    o.0,
    (λ t ne k. by_urgency (tasks' t) (tasks' u) ∙ ap₂ goes_before (h t (omega arith)) (h u (omega (arith, count_self u (v ∷ vs)))) ∙ sym (by_urgency (tasks t) (tasks u)) ∙ o.1 t ne k),
    ordered_like tasks tasks' (v ∷ vs) (λ t k. h t (omega arith)) o.2,
  )

  -- a task that is not in the list changes
  ordered_apart : (tasks : Tasks) (t : ℕ) (x : Option Task) (l : List ℕ) → count t l ≡ 0 → Ordered kind tasks l → Ordered kind (changed tasks t x) l
  ordered_apart tasks t x l z = ordered_like tasks (changed tasks t x) l (λ v k. ap urgency_of (changed_other tasks t x v (λ e. omega (arith, ap (λ i. count i l) e))))

  ordered_removed : (tasks : Tasks) (t : ℕ) (l : List ℕ) → (t ≡ 0 → ⊥) → Ordered kind tasks l → Ordered kind tasks (removed t l)
  ordered_removed tasks t [] ne o = o
  ordered_removed tasks t (u ∷ []) ne o = cond_both (eqb t u) [] (u ∷ []) (Ordered kind tasks) (λ e. absurd (ne (eqb-true t u e ∙ o))) (λ _. o)
  ordered_removed tasks t (u ∷ (v ∷ vs)) ne o = cond_both (eqb t u) (v ∷ vs) (u ∷ removed t (v ∷ vs)) (Ordered kind tasks) (λ _. o.2)
      (λ _. ordered_cons tasks u (removed t (v ∷ vs)) o.0 (λ i nz k. o.1 i nz (omega (arith, removed_less i t (v ∷ vs)))) (ordered_removed tasks t (v ∷ vs) ne o.2))

  module _ (rules : OrderRules kind.before) where
    not_itself : (o : Option Task) → urgent kind o o ≡ false
    not_itself None = refl
    not_itself (Some x) = rules.irreflexive x.urgency

    -- no task of a list in order but task 0 goes before the first
    none_before : (tasks : Tasks) (u : ℕ) (l : List ℕ) → Ordered kind tasks (u ∷ l) → Behind kind tasks u (u ∷ l)
    none_before tasks u l o t nz k = ⊎_elim (λ e. ap (λ i. urgent kind (tasks i) (tasks u)) e ∙ not_itself (tasks u)) (λ ne. go l o (omega (arith, count_other t u l ne))) (cases_eq t u)
      where
        go : (l : List ℕ) → Ordered kind tasks (u ∷ l) → 1 ≤ count t l → urgent kind (tasks t) (tasks u) ≡ false
        go [] o k = absurd (omega arith)
        go (v ∷ vs) o k = o.1 t nz k

    -- what does not go before q does not go before p either, where p goes before q
    not_before : (o p q : Option Task) → urgent kind p q ≡ true → urgent kind o q ≡ false → urgent kind o p ≡ false
    not_before None p q e h = refl
    not_before (Some x) None q e h = refl
    not_before (Some x) (Some y) None e h = let z : ◌≡◌ {A = ℕ} 0 1 = cc in absurd (omega arith)
    not_before (Some x) (Some y) (Some z) e h = go (urgent kind (Some x) (Some y)) refl
      where
        go : (b : Bool) → urgent kind (Some x) (Some y) ≡ b → b ≡ false
        go false q = refl
        go true q = absurd (both_ways (kind.before x.urgency z.urgency) h (rules.transitive x.urgency y.urgency z.urgency q e))

    ordered_entered : (tasks : Tasks) (t : ℕ) (l : List ℕ) → (t ≡ 0 → ⊥) → Ordered kind tasks l → Ordered kind tasks (entered kind tasks t l)
    unfolding entered
    ordered_entered tasks t [] ne o = absurd o
    ordered_entered tasks t (u ∷ []) ne o = cond_both (eqb u 0 || urgent kind (tasks t) (tasks u)) (t ∷ u ∷ []) (u ∷ t ∷ []) (Ordered kind tasks)
        (λ _. (ne, (λ v nz k. absurd (omega (arith, count_other v u [] (λ e. nz (e ∙ o))))), o)) (λ e. absurd (eqb-false u 0 (or_parts (eqb u 0) _ e).0 o))
    ordered_entered tasks t (u ∷ (v ∷ vs)) ne o = cond_both (eqb u 0 || urgent kind (tasks t) (tasks u)) (t ∷ u ∷ v ∷ vs) (u ∷ entered kind tasks t (v ∷ vs)) (Ordered kind tasks)
        (λ e. (ne, (λ i nz k. not_before (tasks i) (tasks t) (tasks u) (goes e) (none_before tasks u (v ∷ vs) o i nz k)), o))
        (λ e. ordered_cons tasks u (entered kind tasks t (v ∷ vs)) o.0 (λ i nz k. ⊎_elim
        (λ q. ap (λ j. urgent kind (tasks j) (tasks u)) q ∙ (or_parts (eqb u 0) _ e).1)
        (λ q. o.1 i nz (omega (arith, count_entered kind tasks i t (v ∷ vs), count_other i t (v ∷ vs) q)))
        (cases_eq i t)) (ordered_entered tasks t (v ∷ vs) ne o.2))
      where
        goes : (eqb u 0 || urgent kind (tasks t) (tasks u)) ≡ true → urgent kind (tasks t) (tasks u) ≡ true
        goes e = ⊎_elim (λ q. absurd (o.0 (eqb-true u 0 q))) (λ q. q) (or_cases (eqb u 0) _ e)

-- Turns

module _ (kind : Kind) (rules : OrderRules kind.before) (first : ℕ) (s : State) (h : History) (w : Sound kind first s h) where
  -- a task that is not in the ready list becomes o and enters
  enters : (t : ℕ) (o : Option Task) → by readies (s.tasks t) ≡ 0 → Ordered kind (changed s.tasks t o) (entered kind (changed s.tasks t o) t s.ready)
  enters t o z = ordered_entered kind rules (changed s.tasks t o) t s.ready
      (λ e. omega (arith, absent, has_idle kind s.tasks s.ready w.ordered, ap (λ i. count i s.ready) e)) (ordered_apart kind s.tasks t o s.ready absent w.ordered)
    where
      absent : count t s.ready ≡ 0
      absent = (w.placed t).in_ready ∙ z

  -- a task that waits or sleeps wakes
  wakes : (t : ℕ) (x : Task) (a : Activity) (o : Option Task) → s.tasks t ≡ Some x → x.activity ≡ a → readies a ≡ 0
      → Ordered kind (changed s.tasks t o) (entered kind (changed s.tasks t o) t s.ready)
  wakes t x a o e q z = enters t o (ap (by readies) e ∙ ap readies q ∙ z)

  -- the running task leaves the ready list, where it stands once, and becomes o
  leaves : (x : Task) (o : Option Task) → Runs s x → Ordered kind (changed s.tasks (running s) o) (removed (running s) s.ready)
  leaves x o r = ordered_apart kind s.tasks (running s) o (removed (running s) s.ready)
      (omega (arith, removed_same (running s) s.ready, (w.placed (running s)).in_ready ∙ ap (by readies) r.here ∙ ap readies r.ready))
      (ordered_removed kind s.tasks (running s) s.ready r.busy w.ordered)

  -- the running task collects its answer
  settles : (x : Task) → s.tasks (running s) ≡ Some x → Ordered kind (changed s.tasks (running s) (Some (answered x))) s.ready
  settles x e = ordered_like kind s.tasks _ s.ready
      (λ v _. changed_both (λ i o. urgency_of o ≡ urgency_of (s.tasks i)) s.tasks (running s) (Some (answered x)) (ap urgency_of (sym e)) v (λ _. refl)) w.ordered

pub keep_ordered : (kind : Kind) → OrderRules kind.before → (first : ℕ) (s s' : State) (h h' : History) → Sound kind first s h → Turn kind s h s' h' → Ordered kind s'.tasks s'.ready
keep_ordered kind rules first s _ h _ w stay = w.ordered
keep_ordered kind rules first s _ h _ w (clock _) = w.ordered
keep_ordered kind rules first s _ h _ w (create t _ _ _ e) = enters kind rules first s h w t _ (ap (by readies) e)
keep_ordered kind rules first s _ h _ w (finish x r) = leaves kind rules first s h w x None r
keep_ordered kind rules first s _ h _ w (sleep x _ r) = leaves kind rules first s h w x _ r
keep_ordered kind rules first s _ h _ w (hurry x _ r) = ordered_entered kind rules _ (running s) _ r.busy (leaves kind rules first s h w x _ r)
keep_ordered kind rules first s _ h _ w (open_box _ _ _ _ _ _ _ _) = w.ordered
keep_ordered kind rules first s _ h _ w (close_box _ _ _ _ _) = w.ordered
keep_ordered kind rules first s _ h _ w (tell x _ _ e _) = settles kind rules first s h w x e
keep_ordered kind rules first s _ h _ w (tell_plain x _ e _) = settles kind rules first s h w x e
keep_ordered kind rules first s _ h _ w (fetch x _ _ _ e _ _) = settles kind rules first s h w x e
keep_ordered kind rules first s _ h _ w (await x _ _ r _ _) = leaves kind rules first s h w x _ r
keep_ordered kind rules first s _ h _ w (take_plain _ _ _ _ _ _ _ _) = w.ordered
keep_ordered kind rules first s _ h _ w (take_wake _ _ _ _ _ _ t x _ _ e q) = wakes kind rules first s h w t x _ _ e q refl
keep_ordered kind rules first s _ h _ w (queue_plain _ _ _ _ _ _) = w.ordered
keep_ordered kind rules first s _ h _ w (queue_over _ _ _ _ _ _ _ _ _ _) = w.ordered
keep_ordered kind rules first s _ h _ w (queue_wait x _ _ _ r _ _ _) = leaves kind rules first s h w x _ r
keep_ordered kind rules first s _ h _ w (hand _ _ _ t x _ _ _ _ _ e q _) = wakes kind rules first s h w t x _ _ e q refl
keep_ordered kind rules first s _ h _ w (waken t x _ _ e q) = wakes kind rules first s h w t x _ _ e q refl
keep_ordered kind rules first s _ h _ w (give_up t x _ _ e q _) = wakes kind rules first s h w t x _ _ e q refl
keep_ordered kind rules first s _ h _ w (withdraw t x _ _ _ e q _) = wakes kind rules first s h w t x _ _ e q refl

pub first_ordered : (kind : Kind) (n : ℕ) → Ordered kind (initial n).tasks (initial n).ready
first_ordered kind n = refl

-- The running task

pub running_ready : (kind : Kind) (s : State) → Ordered kind s.tasks s.ready → 1 ≤ count (running s) s.ready
running_ready kind s o = go s.ready o
  where
    go : (l : List ℕ) → Ordered kind s.tasks l → 1 ≤ count (front l) l
    go [] o = absurd o
    go (u ∷ us) o = omega (arith, count_self u us)

pub running_first : (kind : Kind) → OrderRules kind.before → (s : State) → Ordered kind s.tasks s.ready
    → (t : ℕ) → (t ≡ 0 → ⊥) → 1 ≤ count t s.ready → urgent kind (s.tasks t) (s.tasks (running s)) ≡ false
running_first kind rules s o = go s.ready o
  where
    go : (l : List ℕ) → Ordered kind s.tasks l → Behind kind s.tasks (front l) l
    go [] o = absurd o
    go (u ∷ us) o = none_before kind rules s.tasks u us o

pub idle_alone : (kind : Kind) (s : State) → Ordered kind s.tasks s.ready → running s ≡ 0 → s.ready ≡ 0 ∷ []
idle_alone kind s o = go s.ready o
  where
    go : (l : List ℕ) → Ordered kind s.tasks l → front l ≡ 0 → l ≡ 0 ∷ []
    go [] o e = absurd o
    go (u ∷ []) o e = ap (λ i. i ∷ []) o
    go (u ∷ (v ∷ vs)) o e = absurd (o.0 e)
