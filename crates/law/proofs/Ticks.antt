-- A tick is a turn for each task, visited by rising number.
use Rattle.std.proofs.Common.{◌≡◌, ℕ, zero, suc, ◌+◌, ◌<◌, ◌≤◌, min, Bool, true, false, cond, leb, List, [], ◌∷◌, ◌++◌, Some, None, Option, sym, refl, ap, ◌∙◌, subst, ap₂, subst₂, append_assoc, arith}
use Rattle.std.proofs.lemmas.Bool.{cond_both}
use Rattle.answers.specs.declared.answer.Status.{Status}
use Rattle.answers.specs.declared.answer.Status.TheVariants.{Ok as OK, DeadlineReached as DEADLINE_REACHED}
use Rattle.art.specs.declared.task.Activity.{Activity}
use Rattle.art.specs.declared.task.Activity.TheVariants.{Ready, Receiving, Sending, Asleep}
use Rattle.art.specs.declared.task.Due.{Due}
use Rattle.art.specs.declared.task.Due.TheVariants.{Sent, Plain}
use Rattle.art.specs.declared.task.Event.{Event}
use Rattle.art.specs.declared.task.Event.TheVariants.{Withdrawal, Tick as TICK}
use Rattle.art.specs.declared.task.Task.{Task}
use Rattle.answers.specs.Counts.{count_withdrawn}
use Rattle.art.specs.State.{Kind, State, last_task, top, with_counter, with_counts, with_mailbox}
use Rattle.art.specs.Verbs.{choose, due_after, edit_mailbox, edited, is_empty, leave_receivers, release, rouse, unqueue, wake, wake_task, withdraw}
use Rattle.art.specs.Rules.{numbers_from, tick_task, ticked, visited}
use Rattle.art.specs.Record.{Tick, effect}
use Rattle.law.specs.History.{History, latest, sending_by, waited_till, waits_with, with_line}
use Rattle.law.proofs.Counting.{changed_same, changed_other}
use Rattle.law.proofs.Known.{waits_at_receivers, waits_at_senders}
use Rattle.law.proofs.Lines.{woken}
use Rattle.law.proofs.Sound.{Sound}
use Rattle.law.proofs.Turn as turn
use Rattle.law.proofs.Turn.{Turn}

abbrev with_all_withdrawn : List ℕ → History → History
with_all_withdrawn ns h =
    record { lives = h.lives; accepted = h.accepted; handed_over = h.handed_over; withdrawn = ns ++ h.withdrawn; displaced = h.displaced; told = h.told; brought = h.brought }

chosen : (P : State → Type 0) (b : Bool) (x y : State) → P x → P y → P (choose b x y)
unfolding choose
chosen P true x y p q = p
chosen P false x y p q = q

-- A visit changes the task visited alone

wake_other : (kind : Kind) (s : State) (t : ℕ) (e : Event) (v : ℕ) → (v ≡ t → ⊥) → (wake kind s t e).tasks v ≡ s.tasks v
wake_other kind s t e v ne = go (s.tasks t)
  where
    roused : (x : Task) (d : Option Due) → (rouse kind s t x d).tasks v ≡ s.tasks v
    roused x None = refl
    roused x (Some d) = changed_other s.tasks t _ v ne

    go : (o : Option Task) → (wake_task kind s t e o).tasks v ≡ s.tasks v
    go None = refl
    go (Some x) = roused x (due_after x.urgency.deadline x.activity e)

visit_other : (kind : Kind) (s : State) (t v : ℕ) → (v ≡ t → ⊥) → (tick_task kind s t (s.tasks t)).tasks v ≡ s.tasks v
visit_other kind s t v ne = go (s.tasks t)
  where
    does : (d : ℕ) (a : Activity) → (ticked kind s t d a).tasks v ≡ s.tasks v
    does d Ready = refl
    does d (Receiving m) = chosen (λ z. z.tasks v ≡ s.tasks v) (leb d s.counter) _ s (wake_other kind (edit_mailbox s m (leave_receivers t)) t Withdrawal v ne) refl
    does d (Sending m n) = chosen (λ z. z.tasks v ≡ s.tasks v) (leb d s.counter) _ s (wake_other kind (withdraw kind s m n) t Withdrawal v ne) refl
    does d (Asleep until) = wake_other kind s t (TICK s.counter) v ne

    go : (o : Option Task) → (tick_task kind s t o).tasks v ≡ s.tasks v
    go None = refl
    go (Some x) = does x.urgency.deadline x.activity

visited_other : (kind : Kind) (k u : ℕ) (s : State) (v : ℕ) → v < u → (visited kind s (numbers_from u k)).tasks v ≡ s.tasks v
visited_other kind zero u s v l = refl
visited_other kind (suc k) u s v l = visited_other kind k (u + 1) (tick_task kind s u (s.tasks u)) v (omega arith) ∙ visit_other kind s u v (λ e. omega arith)

latest_same : {A : Type 0} (f g : ℕ → List A) (n k : ℕ) → ((m : ℕ) → n ≤ m → f m ≡ g m) → latest f (numbers_from n k) ≡ latest g (numbers_from n k)
latest_same f g n zero e = refl
latest_same f g n (suc k) e = ap₂ ◌++◌ (latest_same f g (n + 1) k (λ m l. e m (omega arith))) (e n (omega arith))

-- What a task waited with

-- a task that did not wait, or still does
none_waited : (b : Bool) (l : List ℕ) → l ≡ [] → cond b l [] ≡ []
none_waited true l e = e
none_waited false l e = refl

still_waits : (l : List ℕ) → cond (is_empty l) l [] ≡ []
still_waits [] = refl
still_waits (x ∷ l) = refl

-- One visit

module _ (kind : Kind) (first : ℕ) (s : State) (h : History) (w : Sound kind first s h) (t : ℕ) where
  abbrev Visited : State → Type 0
  Visited z = Turn kind s h z (with_all_withdrawn (waited_till s z t) h)

  unmoved : Visited s
  unmoved = subst (λ l. Turn kind s h s (with_all_withdrawn l h)) (sym (still_waits (waits_with (s.tasks t)))) turn.stay

  -- a task that waits with no message becomes ready
  quietly : (z y : State) → waits_with (s.tasks t) ≡ [] → z ≡ y → Turn kind s h y h → Visited z
  quietly z y e p q = subst₂ (λ i l. Turn kind s h i (with_all_withdrawn l h)) (sym p) (sym (none_waited (is_empty (waits_with (z.tasks t))) (waits_with (s.tasks t)) e)) q

  module _ (x : Task) (here : s.tasks t ≡ Some x) where
    turn_receiving : (m : ℕ) → x.activity ≡ Receiving m → Visited (wake kind (edit_mailbox s m (leave_receivers t)) t Withdrawal)
    turn_receiving m a =
        let f = waits_at_receivers kind first s h w t x m here a in
        let b = f.0 in
        quietly _ (rouse kind (with_mailbox s m (Some (leave_receivers t b))) t x (Some (Plain DEADLINE_REACHED)))
        (ap waits_with here ∙ ap sending_by a)
        (woken kind (edit_mailbox s m (leave_receivers t)) t Withdrawal x (Plain DEADLINE_REACHED) here (ap (λ i. due_after x.urgency.deadline i Withdrawal) a)
        ∙ ap (λ v. rouse kind (with_mailbox s m v) t x (Some (Plain DEADLINE_REACHED))) (ap (edited (leave_receivers t)) f.1.here))
        (turn.give_up t x m b here a f.1)

    turn_sending : (m n : ℕ) → x.activity ≡ Sending m n → Visited (wake kind (withdraw kind s m n) t Withdrawal)
    turn_sending m n a =
        let f = waits_at_senders kind first s h w t x m n here a in
        let b = f.0 in
        let p = woken kind (withdraw kind s m n) t Withdrawal x (Sent DEADLINE_REACHED n) here (ap (λ i. due_after x.urgency.deadline i Withdrawal) a)
        ∙ ap (λ v. rouse kind (with_counts (with_mailbox (release kind s n) m v) (count_withdrawn s.counts)) t x (Some (Sent DEADLINE_REACHED n))) (ap (edited (unqueue n)) f.1.here) in
        subst₂ (λ i l. Turn kind s h i (with_all_withdrawn l h)) (sym p)
        (sym (ap₂ (λ o l. cond (is_empty (waits_with o)) l []) (ap (λ i. i.tasks t) p ∙ changed_same s.tasks t _) (ap waits_with here ∙ ap sending_by a)))
        (turn.withdraw t x m b n here a f.1)

    turn_asleep : (until : ℕ) → x.activity ≡ Asleep until → Visited (wake kind s t (TICK s.counter))
    turn_asleep until a =
        cond_both (leb x.urgency.deadline s.counter) (Some (Plain DEADLINE_REACHED)) (cond (leb until s.counter) (Some (Plain OK)) None) Rouses
        (λ _. up DEADLINE_REACHED)
        (λ _. cond_both (leb until s.counter) (Some (Plain OK)) None Rouses (λ _. up OK) (λ _ p. quietly _ s none p turn.stay))
        (ap (wake_task kind s t (TICK s.counter)) here ∙ ap (λ i. rouse kind s t x (due_after x.urgency.deadline i (TICK s.counter))) a)
      where
        Rouses : Option Due → Type 0
        Rouses o = wake kind s t (TICK s.counter) ≡ rouse kind s t x o → Visited (wake kind s t (TICK s.counter))

        none : waits_with (s.tasks t) ≡ []
        none = ap waits_with here ∙ ap sending_by a

        up : (st : Status) → wake kind s t (TICK s.counter) ≡ rouse kind s t x (Some (Plain st)) → Visited (wake kind s t (TICK s.counter))
        up st p = quietly _ (rouse kind s t x (Some (Plain st))) none p (turn.waken t x until st here a)

    turn_visit : (a : Activity) → x.activity ≡ a → Visited (ticked kind s t x.urgency.deadline a)
    turn_visit Ready e = unmoved
    turn_visit (Receiving m) e = chosen Visited _ _ s (turn_receiving m e) unmoved
    turn_visit (Sending m n) e = chosen Visited _ _ s (turn_sending m n e) unmoved
    turn_visit (Asleep until) e = turn_asleep until e

  turn_one : Visited (tick_task kind s t (s.tasks t))
  turn_one = go (s.tasks t) refl
    where
      go : (o : Option Task) → s.tasks t ≡ o → Visited (tick_task kind s t o)
      go None e = unmoved
      go (Some x) e = turn_visit x e x.activity refl

-- All visits

-- what every turn keeps is kept by a tick
module _ (kind : Kind) (first : ℕ) (keep : (s s' : State) (h h' : History) → Sound kind first s h → Turn kind s h s' h' → Sound kind first s' h') where
  visits : (k u : ℕ) (s : State) (h : History) → Sound kind first s h
      → Sound kind first (visited kind s (numbers_from u k)) (with_all_withdrawn (latest (waited_till s (visited kind s (numbers_from u k))) (numbers_from u k)) h)
  visits zero u s h w = w
  visits (suc k) u s h w =
      let s₁ : State = tick_task kind s u (s.tasks u) in
      let end : State = visited kind s₁ (numbers_from (u + 1) k) in
      let h₁ : History = with_all_withdrawn (waited_till s s₁ u) h in
      subst (λ l. Sound kind first end (record { lives = h.lives; accepted = h.accepted; handed_over = h.handed_over; withdrawn = l; displaced = h.displaced; told = h.told; brought = h.brought }))
      (ap₂ (λ a b. a ++ (b ++ h.withdrawn))
      (latest_same (waited_till s₁ end) (waited_till s end) (u + 1) k (λ v l. ap (λ o. cond (is_empty (waits_with (end.tasks v))) (waits_with o) []) (visit_other kind s u v (λ e. omega arith))))
      (ap (λ o. cond (is_empty (waits_with o)) (waits_with (s.tasks u)) []) (sym (visited_other kind k (u + 1) s₁ u (omega arith))))
      ∙ sym (append_assoc (latest (waited_till s end) (numbers_from (u + 1) k)) (waited_till s end u) h.withdrawn))
      (visits k (u + 1) s₁ h₁ (keep s s₁ h h₁ w (turn_one kind first s h w u)))

  pub tick_keeps : (s : State) (h : History) → Sound kind first s h → Sound kind first (effect kind s Tick).state (with_line s Tick (effect kind s Tick) h)
  tick_keeps s h w = visits last_task 1 (with_counter s (min (s.counter + 1) top)) h (keep s _ h h w (turn.clock (min (s.counter + 1) top)))
