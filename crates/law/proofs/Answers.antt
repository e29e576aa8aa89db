-- Each sender that waits is told, or is due to be told, once of what became of its message, by turns.
use Rattle.std.proofs.Common.{◌≡◌, ℕ, ◌+◌, ◌<◌, ◌≤◌, Bool, true, false, cond, ◌||◌, eqb, List, [], ◌∷◌, ◌++◌, map, is_some, Some, None, filter, Option, sym, refl, ap, ◌∙◌, subst, ⊎_elim, arith}
use Rattle.std.specs.List.{ContainsAt as Has, AllByRecursion}
use Rattle.std.proofs.lemmas.Bool.{cond_both, eq-eqb, ne_eqb, cases_eq, cases_lt}
use Rattle.answers.specs.declared.answer.Status.{Status}
use Rattle.answers.specs.declared.answer.Status.TheVariants.{Ok as OK, Blocked as BLOCKED, DeadlineReached as DEADLINE_REACHED}
use Rattle.art.specs.declared.task.Activity.{Activity}
use Rattle.art.specs.declared.task.Activity.TheVariants.{Ready, Receiving, Sending, Asleep}
use Rattle.art.specs.declared.task.Due.{Due}
use Rattle.art.specs.declared.task.Due.TheVariants.{Sent, Given, Plain}
use Rattle.art.specs.declared.task.Message.{Message}
use Rattle.art.specs.declared.task.Task.{Task}
use Rattle.art.specs.State.{Kind, Mailbox, State, changed, initial, running}
use Rattle.law.specs.History.{Acceptance, Notice, History, no_history, notice, of_option}
use Rattle.law.specs.Law.{count, of_tasks, handed_over, told, told_by, is_ok, is_deadline_reached, Answers}
use Rattle.law.proofs.Counting.{one_self, count_other, task_changed}
use Rattle.law.proofs.Turn.{acting, answered, hurried, created, with_told, Oldest}
use Rattle.law.proofs.Turn.{Turn, stay, clock, create, finish, sleep, hurry, open_box, close_box, tell, tell_plain, fetch, await}
use Rattle.law.proofs.Turn.{take_plain, take_wake, queue_plain, queue_over, queue_wait, hand, waken, give_up, withdraw}
use Rattle.law.proofs.Sound.{Tasks, Sound, Answered, all_due, debt, met, member, readies, waited, QueuedAt}
use Rattle.law.proofs.Traces.{sent_waiting}
use Rattle.law.proofs.Unique.{first_alone, has_cases, has_number, numbers_of}

-- Whether a message was accepted from a sender that waits

member_other : (k : ℕ) (a : Acceptance) (l : List Acceptance) → (k ≡ a.number → ⊥) → member k (waited (a ∷ l)) ≡ member k (waited l)
member_other k a l ne = cond_both (is_some a.sender) (a.number ∷ []) [] (λ z. member k (z ++ waited l) ≡ member k (waited l))
    (λ _. ap (λ b. b || member k (waited l)) (ne_eqb k a.number ne)) (λ _. refl)

member_none : (k : ℕ) (l : List Acceptance) → count k (numbers_of l) ≡ 0 → member k (waited l) ≡ false
member_none k [] e = refl
member_none k (a ∷ l) e = member_other k a l (λ q. omega (arith, one_self k, ap (λ i. cond {A = ℕ} (eqb k i) 1 0) q)) ∙ member_none k l (omega arith)

member_first : (a : Acceptance) (l : List Acceptance) → count a.number (numbers_of l) ≡ 0 → member a.number (waited (a ∷ l)) ≡ is_some a.sender
member_first a l e = go (is_some a.sender)
  where
    go : (b : Bool) → member a.number (cond b (a.number ∷ []) [] ++ waited l) ≡ b
    go true = ap (λ b. b || member a.number (waited l)) (eq-eqb a.number a.number refl)
    go false = member_none a.number l e

member_is : (l : List Acceptance) (a : Acceptance) → Has l a → count a.number (numbers_of l) ≤ 1 → member a.number (waited l) ≡ is_some a.sender
member_is [] a p c = absurd (omega (arith, p.1))
member_is (y ∷ l) a p c = ⊎_elim
    (λ (e : y ≡ a). subst (λ z. count z.number (numbers_of (y ∷ l)) ≤ 1 → member z.number (waited (y ∷ l)) ≡ is_some z.sender) e
    (λ c. member_first y l (omega (arith, one_self y.number))) c)
    (λ q. member_other a.number y l (λ e. first_alone y l a.number (sym e) (has_number l a q) c) ∙ member_is l a q (omega arith))
    (has_cases y l a p)

-- How often a message met a fate

cond_none : (b : Bool) (x : ℕ) → x ≡ 0 → cond b x 0 ≡ 0
cond_none true x e = e
cond_none false x e = refl

met_below : (k : ℕ) (l : List Acceptance) (fate : List ℕ) → met k l fate ≤ count k fate
met_below k l fate = cond_both (member k (waited l)) (count k fate) 0 (λ x. x ≤ count k fate) (λ _. omega arith) (λ _. omega arith)

-- one more that meets its fate counts where its sender waited
met_more : (k n : ℕ) (l : List Acceptance) (fate : List ℕ) (b : Bool) → member n (waited l) ≡ b → met k l (n ∷ fate) ≡ met k l fate + cond b (count k (n ∷ [])) 0
met_more k n l fate b e = ⊎_elim
    (λ (q : k ≡ n). ap (λ c. cond c (count k (n ∷ fate)) 0) (same q) ∙ both b ∙ ap (λ c. cond c (count k fate) 0 + cond b (count k (n ∷ [])) 0) (sym (same q)))
    (λ q. omega (arith, ap (λ x. cond (member k (waited l)) x 0) (count_other k n fate q), cond_none b (count k (n ∷ [])) (count_other k n [] q)))
    (cases_eq k n)
  where
    same : k ≡ n → member k (waited l) ≡ b
    same q = ap (λ i. member i (waited l)) q ∙ e

    both : (c : Bool) → cond c (count k (n ∷ fate)) 0 ≡ cond c (count k fate) 0 + cond c (count k (n ∷ [])) 0
    both true = omega arith
    both false = omega arith

-- a message that has met no fate yet is accepted
met_new : (k : ℕ) (a : Acceptance) (l : List Acceptance) (fate : List ℕ) → count a.number fate ≡ 0 → met k (a ∷ l) fate ≡ met k l fate
met_new k a l fate z = ⊎_elim
    (λ (q : k ≡ a.number). let e = ap (λ i. count i fate) q ∙ z in cond_none (member k (waited (a ∷ l))) (count k fate) e ∙ sym (cond_none (member k (waited l)) (count k fate) e))
    (λ q. ap (λ b. cond b (count k fate) 0) (member_other k a l q))
    (cases_eq k a.number)

-- What is told and what is due

told_one : (is : Status → Bool) (h : History) (k : ℕ) (x : Notice) → count k (told is (with_told (x ∷ []) h)) ≡ count k (told_by is (Sent x.status x.number)) + count k (told is h)
told_one is h k x = go (is x.status) (filter (λ x. is x.status) h.told)
  where
    go : (b : Bool) (l : List Notice) → count k (map (λ x. x.number) (cond b (x ∷ l) l)) ≡ count k (cond b (x.number ∷ []) []) + count k (map (λ x. x.number) l)
    go true l = omega arith
    go false l = omega arith

-- a notice tells what was due; of BLOCKED nothing is told
told_more : (is : Status → Bool) → is BLOCKED ≡ false → (h : History) (k t : ℕ) (st : Status) (n : ℕ)
    → count k (told is (with_told (notice t st n) h)) ≡ count k (told_by is (Sent st n)) + count k (told is h)
told_more is e h k t OK n = told_one is h k (record { task = t; status = OK; number = n })
told_more is e h k t BLOCKED n = omega (arith, ap (λ b. count k (cond b (n ∷ []) [])) e)
told_more is e h k t DEADLINE_REACHED n = told_one is h k (record { task = t; status = DEADLINE_REACHED; number = n })

-- the sender of a message that is handed over at once is told so, if it waits
told_new : (is : Status → Bool) (h : History) (k : ℕ) (sender : Option ℕ) (n : ℕ)
    → count k (told is (with_told (of_option sender (λ u. notice u OK n)) h)) ≡ cond (is_some sender) (count k (told_by is (Sent OK n))) 0 + count k (told is h)
told_new is h k None n = omega arith
told_new is h k (Some u) n = told_one is h k (record { task = u; status = OK; number = n })

-- a task that is woken, with its answer due
abbrev roused : Task → Due → Task
roused x d = record { urgency = x.urgency; activity = Ready; due = Some d }

-- what of an answer due tells of a message
abbrev owing : (Status → Bool) → Option Due → List ℕ
owing is o = of_option o (told_by is)

-- of the task t, whose number is small, o is due
record Owes (tasks : Tasks) (t : ℕ) (o : Option Due) : Type 0 where
  small : t < 64
  owed : (is : Status → Bool) → of_option (tasks t) (debt is) ≡ owing is o

-- task t, of which o was due, becomes v
module _ (tasks : Tasks) (t : ℕ) (o : Option Due) (r : Owes tasks t o) (v : Option Task) where
  dues : (is : Status → Bool) (k : ℕ) → count k (all_due is (changed tasks t v)) + count k (owing is o) ≡ count k (all_due is tasks) + count k (of_option v (debt is))
  dues is k = omega (arith, task_changed (λ x. cond (eqb k x) 1 0) (debt is) tasks t v r.small, ap (count k) (r.owed is))

  -- and what it has to be told of messages stays
  quiet : (h : History) → Answered tasks h → ((is : Status → Bool) → of_option v (debt is) ≡ owing is o) → Answered (changed tasks t v) h
  quiet h i e = record {
    of_ok = λ k. omega (arith, i.of_ok k, dues is_ok k, ap (count k) (e is_ok));
    of_deadline_reached = λ k. omega (arith, i.of_deadline_reached k, dues is_deadline_reached k, ap (count k) (e is_deadline_reached));
  }

module _ (kind : Kind) (first : ℕ) (s : State) (h : History) (w : Sound kind first s h) where
  owes : (t : ℕ) (x : Task) (o : Option Due) → s.tasks t ≡ Some x → x.due ≡ o → Owes s.tasks t o
  owes t x o e q = record {
    small = ⊎_elim (λ l. l) (λ l. let none = w.tasked.range t l in let z : ◌≡◌ {A = ℕ} 0 1 = cc in absurd (omega arith)) (cases_lt t 64);
    owed = λ is. ap (λ y. of_option y (debt is)) e ∙ ap (owing is) q;
  }

  -- the running task, x, of which o is due, becomes v
  runs : (x : Task) (o : Option Due) → s.tasks (running s) ≡ Some x → x.due ≡ o → (v : Option Task) → ((is : Status → Bool) → of_option v (debt is) ≡ owing is o)
      → Answered (changed s.tasks (running s) v) h
  runs x o e q v r = quiet s.tasks (running s) o (owes (running s) x o e q) v h w.answered r

  -- a task that waits or sleeps has nothing due, and is woken with d due
  module _ (t : ℕ) (x : Task) (a : Activity) (e : s.tasks t ≡ Some x) (q : x.activity ≡ a) (z : readies a ≡ 0) (d : Due) where
    wakes : (is : Status → Bool) (k : ℕ) → count k (all_due is (changed s.tasks t (Some (roused x d)))) ≡ count k (all_due is s.tasks) + count k (told_by is d)
    wakes is k = omega (arith, dues s.tasks t None (owes t x None e (w.tasked.calm t x e (ap readies q ∙ z))) (Some (roused x d)) is k)

    wakes_quiet : ((is : Status → Bool) → told_by is d ≡ []) → Answered (changed s.tasks t (Some (roused x d))) h
    wakes_quiet = quiet s.tasks t None (owes t x None e (w.tasked.calm t x e (ap readies q ∙ z))) (Some (roused x d)) h w.answered

  -- an accepted message was waited with where it has a sender
  waited_as : (a : Acceptance) → Has h.accepted a → (k : ℕ) → a.number ≡ k → (o : Option ℕ) → a.sender ≡ o → member k (waited h.accepted) ≡ is_some o
  waited_as a p k e o q = subst (λ n. member n (waited h.accepted) ≡ is_some o) e (member_is h.accepted a p (w.balanced.once a.number) ∙ ap is_some q)

  waited_oldest : (m : ℕ) (b : Mailbox) (y : Message) (ys : List Message) (bytes : List ℕ) → Oldest s m b y ys bytes → (o : Option ℕ) → y.sender ≡ o
      → member y.number (waited h.accepted) ≡ is_some o
  waited_oldest m b y ys bytes old o e =
      let q = (subst (AllByRecursion (QueuedAt h m b.size)) old.first (w.traced.of_queued m b old.at.here)).0 in
      waited_as q.sending q.was_accepted y.number q.number o (q.sender ∙ e)

  -- the next message has met no fate
  new_handed_over : count s.next (handed_over h) ≡ 0
  new_handed_over = omega (arith, w.balanced.new s.next (omega arith), w.balanced.parted s.next)

  new_withdrawn : count s.next h.withdrawn ≡ 0
  new_withdrawn = omega (arith, w.balanced.new s.next (omega arith), w.balanced.parted s.next)

module _ (kind : Kind) (first : ℕ) where
  pub keep_answered : (s s' : State) (h h' : History) → Sound kind first s h → Turn kind s h s' h' → Answered s'.tasks h'
  keep_answered s _ h _ w stay = w.answered
  keep_answered s _ h _ w (clock n) = w.answered
  keep_answered s _ h _ w (create t u _ l e) =
      let i = quiet s.tasks t None (record { small = omega arith; owed = λ is. ap (λ y. of_option y (debt is)) e }) (Some (created u)) h w.answered (λ _. refl) in
      record { of_ok = i.of_ok; of_deadline_reached = i.of_deadline_reached }
  keep_answered s _ h _ w (finish x r) =
      let i = runs kind first s h w x None r.here r.free None (λ _. refl) in
      record { of_ok = i.of_ok; of_deadline_reached = i.of_deadline_reached }
  keep_answered s _ h _ w (sleep x until r) = runs kind first s h w x x.due r.here refl (Some (acting (Asleep until) x)) (λ _. refl)
  keep_answered s _ h _ w (hurry x d r) = runs kind first s h w x x.due r.here refl (Some (hurried d x)) (λ _. refl)
  keep_answered s _ h _ w (open_box m c z _ _ _ _ _) = w.answered
  keep_answered s _ h _ w (close_box m b _ _ _) = w.answered
  keep_answered s _ h _ w (tell x st n e d) =
      let less = dues s.tasks (running s) (Some (Sent st n)) (owes kind first s h w (running s) x (Some (Sent st n)) e d) (Some (answered x)) in
      record {
        of_ok = λ k. omega (arith, w.answered.of_ok k, less is_ok k, told_more is_ok refl h k (running s) st n);
        of_deadline_reached = λ k. omega (arith, w.answered.of_deadline_reached k, less is_deadline_reached k, told_more is_deadline_reached refl h k (running s) st n);
      }
  keep_answered s _ h _ w (tell_plain x st e d) = runs kind first s h w x (Some (Plain st)) e d (Some (answered x)) (λ _. refl)
  keep_answered s _ h _ w (fetch x n bytes buffer e d _) =
      let i = runs kind first s h w x (Some (Given n)) e d (Some (answered x)) (λ _. refl) in
      record { of_ok = i.of_ok; of_deadline_reached = i.of_deadline_reached }
  keep_answered s _ h _ w (await x m b r _ _) = runs kind first s h w x x.due r.here refl (Some (acting (Receiving m) x)) (λ _. refl)
  keep_answered s _ h _ w (take_plain m b y ys bytes buffer o e) =
      let z = waited_oldest kind first s h w m b y ys bytes o None e in
      record { of_ok = λ k. omega (arith, w.answered.of_ok k, met_more k y.number h.accepted (handed_over h) false z); of_deadline_reached = w.answered.of_deadline_reached }
  keep_answered s _ h _ w (take_wake m b y ys bytes buffer t x o e p q) =
      let more = wakes kind first s h w t x (Sending m y.number) p q refl (Sent OK y.number) in
      let z = waited_oldest kind first s h w m b y ys bytes o (Some t) e in
      record {
        of_ok = λ k. omega (arith, w.answered.of_ok k, more is_ok k, met_more k y.number h.accepted (handed_over h) true z);
        of_deadline_reached = λ k. omega (arith, w.answered.of_deadline_reached k, more is_deadline_reached k);
      }
  keep_answered s _ h _ w (queue_plain m b bytes _ _ _) = record { of_ok = w.answered.of_ok; of_deadline_reached = w.answered.of_deadline_reached }
  keep_answered s _ h _ w (queue_over m b y ys old bytes _ _ _ _) = record { of_ok = w.answered.of_ok; of_deadline_reached = w.answered.of_deadline_reached }
  keep_answered s _ h _ w (queue_wait x m b bytes r _ _ _) =
      let i = runs kind first s h w x x.due r.here refl (Some (acting (Sending m s.next) x)) (λ _. refl) in
      let a : Acceptance = record { mailbox = m; number = s.next; bytes = bytes; sender = Some (running s) } in
      record {
        of_ok = λ k. i.of_ok k ∙ sym (met_new k a h.accepted (handed_over h) (new_handed_over kind first s h w));
        of_deadline_reached = λ k. i.of_deadline_reached k ∙ sym (met_new k a h.accepted h.withdrawn (new_withdrawn kind first s h w));
      }
  keep_answered s _ h _ w (hand sender m b t x rs bytes _ _ _ e q _) =
      let more = wakes kind first s h w t x (Receiving m) e q refl (Given s.next) in
      let a : Acceptance = record { mailbox = m; number = s.next; bytes = bytes; sender = sender } in
      let z = member_first a h.accepted (w.balanced.new s.next (omega arith)) in
      record {
        of_ok = λ k. omega (
          arith,
          w.answered.of_ok k,
          more is_ok k,
          told_new is_ok h k sender s.next,
          met_new k a h.accepted (handed_over h) (new_handed_over kind first s h w),
          met_more k s.next (a ∷ h.accepted) (handed_over h) (is_some sender) z,
        );
        of_deadline_reached = λ k. omega (
          arith,
          w.answered.of_deadline_reached k,
          more is_deadline_reached k,
          told_new is_deadline_reached h k sender s.next,
          cond_none (is_some sender) 0 refl,
          met_new k a h.accepted h.withdrawn (new_withdrawn kind first s h w),
        );
      }
  keep_answered s _ h _ w (waken t x until st e q) = wakes_quiet kind first s h w t x (Asleep until) e q refl (Plain st) (λ _. refl)
  keep_answered s _ h _ w (give_up t x m b e q _) = wakes_quiet kind first s h w t x (Receiving m) e q refl (Plain DEADLINE_REACHED) (λ _. refl)
  keep_answered s _ h _ w (withdraw t x m b n e q at) =
      let more = wakes kind first s h w t x (Sending m n) e q refl (Sent DEADLINE_REACHED n) in
      let r = sent_waiting kind first s h w t x m b n e q at in
      let z = waited_as kind first s h w r.sending r.was_accepted n r.number (Some t) r.sender in
      record {
        of_ok = λ k. omega (arith, w.answered.of_ok k, more is_ok k);
        of_deadline_reached = λ k. omega (arith, w.answered.of_deadline_reached k, more is_deadline_reached k, met_more k n h.accepted h.withdrawn true z);
      }

-- no task has an answer due at first
pub first_answered : (n : ℕ) → Answered (initial n).tasks no_history
unfolding of_tasks
first_answered n = record { of_ok = λ _. refl; of_deadline_reached = λ _. refl }

pub answers_hold : (kind : Kind) (first : ℕ) (s : State) (h : History) → Sound kind first s h → Answers s h
answers_hold kind first s h w = record {
  ok = λ a p e. w.answered.of_ok a.number ∙ all_met a p e (handed_over h);
  deadline_reached = λ a p e. w.answered.of_deadline_reached a.number ∙ all_met a p e h.withdrawn;
  once = λ k. omega (
    arith,
    w.answered.of_ok k,
    w.answered.of_deadline_reached k,
    w.balanced.parted k,
    w.balanced.once k,
    met_below k h.accepted (handed_over h),
    met_below k h.accepted h.withdrawn,
  );
  told_to_sender = w.traced.of_told;
  due_to_sender = w.traced.of_due;
}
  where
    -- each fate of a message with a sender counts
    all_met : (a : Acceptance) → Has h.accepted a → is_some a.sender ≡ true → (fate : List ℕ) → met a.number h.accepted fate ≡ count a.number fate
    all_met a p e fate = ap (λ b. cond b (count a.number fate) 0) (member_is h.accepted a p (w.balanced.once a.number) ∙ e)
