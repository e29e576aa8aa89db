-- Each task stands where what it does says, and nowhere else: at the start, and after each turn.
use Rattle.std.proofs.Common.{◌≡◌, ℕ, zero, suc, ◌+◌, ◌<◌, ◌≤◌, true, false, cond, eqb, List, [], ◌∷◌, ◌++◌, length, is_some, Some, None, Option, sym, refl, ap, ◌∙◌, subst, ap₂, ⊎_elim, append-nil, arith}
use Rattle.std.proofs.lemmas.Bool.{eq-eqb, ne_eqb, cases_eq}
use Rattle.art.specs.declared.task.Activity.{Activity}
use Rattle.art.specs.declared.task.Activity.TheVariants.{Ready, Receiving, Sending, Asleep}
use Rattle.art.specs.declared.task.Due.{Due}
use Rattle.art.specs.declared.task.Message.{Message}
use Rattle.art.specs.declared.task.Task.{Task}
use Rattle.art.specs.declared.task.Urgency.{Urgency}
use Rattle.art.specs.State.{Kind, Mailbox, State, changed, idle_task, initial, running}
use Rattle.art.specs.Verbs.{entered, removed, queue, with_messages}
use Rattle.art.specs.Rules.{numbers_from}
use Rattle.law.specs.History.{History, Life, Created, Ended, of_option}
use Rattle.law.specs.Law.{sum_of, count, each, of_mailboxes, receivers, sender_in, senders, asleep_by, asleep, living, places}
use Rattle.law.proofs.Counting.{sum_append, count_append, count_self, count_other, count_entered, one_self, one_other, removed_same, removed_other, changed_same, changed_other, changed_both, in_mailbox}
use Rattle.law.proofs.Turn.{Runs, At, acting, answered, hurried, created, next_message, after_displacing, Turn, stay, clock, create, finish, sleep, hurry, open_box, close_box, tell, tell_plain, fetch, await, take_plain, take_wake, queue_plain, queue_over, queue_wait, hand, waken, give_up, withdraw}
use Rattle.law.proofs.Sound.{Tasks, Mailboxes, readies, receives, sends, by, listed, receivers_in, messages_in, sent_by, numbers, Stands, Placed, Tasked, Sound}
use Rattle.law.proofs.Senders.{own_number, other_number, oldest_own, oldest_other, oldest_plain, sent_by_end, count_senders, unqueued_sent}

-- Places

-- task u stands in mailbox v as in o
record Like (u : ℕ) (v o : Option Mailbox) : Type 0 where
  receivers : count u (receivers_in v) ≡ count u (receivers_in o)
  senders : sent_by u (messages_in v) ≡ sent_by u (messages_in o)

like_same : (u : ℕ) (o : Option Mailbox) → Like u o o
like_same u o = record { receivers = refl; senders = refl }

-- every task but t stands at the mailboxes as before
abbrev Others : ℕ → Mailboxes → Mailboxes → Type 0
Others t boxes boxes' = (u : ℕ) → (u ≡ t → ⊥) → (m : ℕ) → Like u (boxes' m) (boxes m)

-- where the mailboxes stay
still : (boxes : Mailboxes) (t : ℕ) → Others t boxes boxes
still boxes t u _ m = like_same u (boxes m)

-- who does a waits at mailbox m, and nowhere else
record Waits (m : ℕ) (a : Activity) : Type 0 where
  idle : readies a ≡ 0
  elsewhere : (i : ℕ) → (i ≡ m → ⊥) → (receives i a ≡ 0) × (sends i a ≡ [])

receiving_waits : (m : ℕ) → Waits m (Receiving m)
receiving_waits m = record { idle = refl; elsewhere = λ i ne. (one_other i m ne, refl) }

sending_waits : (m n : ℕ) → Waits m (Sending m n)
sending_waits m n = record { idle = refl; elsewhere = λ i ne. (refl, ap (λ c. cond c (n ∷ []) []) (ne_eqb i m ne)) }

sends_here : (m n : ℕ) → sends m (Sending m n) ≡ n ∷ []
sends_here m n = ap (λ c. cond c (n ∷ []) []) (eq-eqb m m refl)

-- task t stands k times among the receivers of a mailbox, and waits there with the messages ns
abbrev Found : ℕ → Option Mailbox → ℕ → List ℕ → Type 0
Found t o k ns = (count t (receivers_in o) ≡ k) × (sent_by t (messages_in o) ≡ ns)

module _ (s : State) (p : Placed s.tasks s.mailboxes s.ready) where
  stands_like : (u : ℕ) (boxes : Mailboxes) (l : List ℕ) → ((m : ℕ) → Like u (boxes m) (s.mailboxes m)) → count u l ≡ count u s.ready → Stands u (s.tasks u) boxes l
  stands_like u boxes l h e = record {
    in_ready = e ∙ (p u).in_ready;
    in_receivers = λ m. (h m).receivers ∙ (p u).in_receivers m;
    in_senders = λ m. (h m).senders ∙ (p u).in_senders m;
    bounded = (p u).bounded;
  }

  -- one task moves
  moved : (t : ℕ) (v : Option Task) (boxes : Mailboxes) (l : List ℕ) → Others t s.mailboxes boxes → ((u : ℕ) → (u ≡ t → ⊥) → count u l ≡ count u s.ready)
      → Stands t v boxes l → Placed (changed s.tasks t v) boxes l
  moved t v boxes l h e new u = changed_both (λ i o. Stands i o boxes l) s.tasks t v new u (λ ne. stands_like u boxes l (h u ne) (e u ne))

  -- where a task stands that does a
  stood : (t : ℕ) (x : Task) (a : Activity) → s.tasks t ≡ Some x → x.activity ≡ a → Stands t (Some (acting a x)) s.mailboxes s.ready
  stood t x a e q = subst (λ b. Stands t (Some (acting b x)) s.mailboxes s.ready) q (subst (λ o. Stands t o s.mailboxes s.ready) e (p t))

  -- a task changes and does what it did
  kept : (t : ℕ) (x v : Task) (l : List ℕ) → s.tasks t ≡ Some x → v.activity ≡ x.activity → ((u : ℕ) → count u l ≡ count u s.ready) → Placed (changed s.tasks t (Some v)) s.mailboxes l
  kept t x v l e q same = let k = stood t x v.activity e (sym q) in moved t (Some v) s.mailboxes l (still s.mailboxes t) (λ u _. same u)
      (record { in_ready = same t ∙ k.in_ready; in_receivers = k.in_receivers; in_senders = k.in_senders; bounded = k.bounded })

  -- a task enters the ready list
  entering : (kind : Kind) (tasks : Tasks) (t : ℕ) (u : Urgency) (d : Option Due) (boxes : Mailboxes) → Others t s.mailboxes boxes → count t s.ready ≡ 0
      → ((m : ℕ) → Found t (boxes m) 0 []) → Placed (changed s.tasks t (Some (record { urgency = u; activity = Ready; due = d }))) boxes (entered kind tasks t s.ready)
  entering kind tasks t u d boxes h z nowhere = moved t (Some (record { urgency = u; activity = Ready; due = d })) boxes (entered kind tasks t s.ready) h
      (λ i ne. count_entered kind tasks i t s.ready ∙ count_other i t s.ready ne) (record {
        in_ready = omega (arith, count_entered kind tasks t t s.ready, count_self t s.ready);
        in_receivers = λ m. (nowhere m).0;
        in_senders = λ m. (nowhere m).1;
        bounded = λ _ _. (refl, refl);
      })

  -- a task, which was ready, leaves the ready list
  leaving : (t : ℕ) (x : Task) (v : Option Task) (boxes : Mailboxes) → s.tasks t ≡ Some x → x.activity ≡ Ready → by readies v ≡ 0 → Others t s.mailboxes boxes
      → ((m : ℕ) → Found t (boxes m) (by (receives m) v) (listed (sends m) v)) → ((m : ℕ) → 32 ≤ m → (by (receives m) v ≡ 0) × (listed (sends m) v ≡ []))
      → Placed (changed s.tasks t v) boxes (removed t s.ready)
  leaving t x v boxes e q z h new far = moved t v boxes (removed t s.ready) h (λ u ne. removed_other u t s.ready ne) (record {
    in_ready = omega (arith, removed_same t s.ready, (stood t x Ready e q).in_ready);
    in_receivers = λ m. (new m).0;
    in_senders = λ m. (new m).1;
    bounded = far;
  })

  -- the same at one mailbox
  found : (m : ℕ) (o : Option Mailbox) → s.mailboxes m ≡ o → (t : ℕ) (x : Task) (a : Activity) → s.tasks t ≡ Some x → x.activity ≡ a → Found t o (receives m a) (sends m a)
  found m o here t x a e q = let k = stood t x a e q in (sym (ap (λ w. count t (receivers_in w)) here) ∙ k.in_receivers m, sym (ap (λ w. sent_by t (messages_in w)) here) ∙ k.in_senders m)

  -- mailbox m, which was o, is v
  module _ (m : ℕ) (o v : Option Mailbox) (here : s.mailboxes m ≡ o) where
    like_changed : (u : ℕ) → Like u v o → (i : ℕ) → Like u (changed s.mailboxes m v i) (s.mailboxes i)
    like_changed u h i = changed_both (λ j w. Like u w (s.mailboxes j)) s.mailboxes m v (subst (λ w. Like u v w) (sym here) h) i (λ _. like_same u (s.mailboxes i))

    -- no task moves
    boxed : ((u : ℕ) → Like u v o) → Placed s.tasks (changed s.mailboxes m v) s.ready
    boxed h u = stands_like u (changed s.mailboxes m v) s.ready (like_changed u (h u)) refl

    -- a task, which waited there and did a, becomes ready
    waking : (kind : Kind) (tasks : Tasks) (t : ℕ) (x : Task) (a : Activity) (d : Option Due) → s.tasks t ≡ Some x → x.activity ≡ a → Waits m a
        → ((u : ℕ) → (u ≡ t → ⊥) → Like u v o) → (Found t o (receives m a) (sends m a) → Found t v 0 [])
        → Placed (changed s.tasks t (Some (record { urgency = x.urgency; activity = Ready; due = d }))) (changed s.mailboxes m v) (entered kind tasks t s.ready)
    waking kind tasks t x a d e q only h gone = let k = stood t x a e q in
        entering kind tasks t x.urgency d (changed s.mailboxes m v) (λ u ne. like_changed u (h u ne)) (k.in_ready ∙ only.idle)
        (λ i. changed_both (λ _ w. Found t w 0 []) s.mailboxes m v (gone (found m o here t x a e q)) i
        (λ ne. (k.in_receivers i ∙ (only.elsewhere i ne).0, k.in_senders i ∙ (only.elsewhere i ne).1)))

    -- a task, which was ready, waits there and does a
    waiting : (t : ℕ) (x : Task) (a : Activity) → s.tasks t ≡ Some x → x.activity ≡ Ready → m < 32 → Waits m a
        → ((u : ℕ) → (u ≡ t → ⊥) → Like u v o) → (Found t o 0 [] → Found t v (receives m a) (sends m a))
        → Placed (changed s.tasks t (Some (acting a x))) (changed s.mailboxes m v) (removed t s.ready)
    waiting t x a e q small only h come = let k = stood t x Ready e q in
        leaving t x (Some (acting a x)) (changed s.mailboxes m v) e q only.idle (λ u ne. like_changed u (h u ne))
        (λ i. changed_both (λ j w. Found t w (receives j a) (sends j a)) s.mailboxes m v (come (found m o here t x Ready e q)) i
        (λ ne. (k.in_receivers i ∙ sym (only.elsewhere i ne).0, k.in_senders i ∙ sym (only.elsewhere i ne).1)))
        (λ i far. only.elsewhere i (λ j. omega arith))

-- What single turns do

-- a task leaves a list and enters it again
back : (kind : Kind) (tasks : Tasks) (u t : ℕ) (l : List ℕ) → 1 ≤ count t l → count u (entered kind tasks t (removed t l)) ≡ count u l
back kind tasks u t l h = count_entered kind tasks u t (removed t l) ∙ ⊎_elim
    (λ e. subst (λ i. count i (t ∷ removed t l) ≡ count i l) (sym e) (omega (arith, count_self t (removed t l), removed_same t l)))
    (λ ne. count_other u t (removed t l) ne ∙ removed_other u t l ne) (cases_eq u t)

-- a number stands in a queue but once
pub queued_once : (kind : Kind) (first : ℕ) (s : State) (h : History) → Sound kind first s h → (m : ℕ) (b : Mailbox) → At s m b → (n : ℕ) → count n (numbers b) ≤ 1
queued_once kind first s h w m b a n = omega (
  arith,
  in_mailbox (λ k. cond (eqb n k) 1 0) numbers s.mailboxes m a.small,
  ap (λ o. count n (of_option o numbers)) a.here,
  w.balanced.parted n,
  w.balanced.once n,
)

module _ (s : State) (p : Placed s.tasks s.mailboxes s.ready) where
  -- the running task has collected its answer
  placed_settled : (x : Task) → s.tasks (running s) ≡ Some x → Placed (changed s.tasks (running s) (Some (answered x))) s.mailboxes s.ready
  placed_settled x e = kept s p (running s) x (answered x) s.ready e refl (λ _. refl)

  -- the running task ends or falls asleep
  placed_leaving : (x : Task) (v : Option Task) → Runs s x → by readies v ≡ 0 → ((m : ℕ) → (by (receives m) v ≡ 0) × (listed (sends m) v ≡ []))
      → Placed (changed s.tasks (running s) v) s.mailboxes (removed (running s) s.ready)
  placed_leaving x v r z nowhere = let k = stood s p (running s) x Ready r.here r.ready in
      leaving s p (running s) x v s.mailboxes r.here r.ready z (still s.mailboxes (running s))
      (λ m. (k.in_receivers m ∙ sym (nowhere m).0, k.in_senders m ∙ sym (nowhere m).1)) (λ m _. nowhere m)

  module _ (m : ℕ) (b : Mailbox) (here : s.mailboxes m ≡ Some b) where
    -- the oldest message leaves, which has no sender
    placed_taken : (y : Message) (ys : List Message) → b.messages ≡ y ∷ ys → y.sender ≡ None → Placed s.tasks (changed s.mailboxes m (Some (with_messages b ys))) s.ready
    placed_taken y ys e q = boxed s p m (Some b) (Some (with_messages b ys)) here (λ u. record { receivers = refl; senders = sym (ap (sent_by u) e ∙ oldest_plain y ys u q) })

    -- a message comes that has no sender
    placed_queued : (n : ℕ) → Placed s.tasks (changed s.mailboxes m (Some (queue (record { number = n; sender = None }) b))) s.ready
    placed_queued n = boxed s p m (Some b) (Some (queue (record { number = n; sender = None }) b)) here (λ u. record {
      receivers = refl;
      senders = sent_by_end u b.messages (record { number = n; sender = None }) ∙ append-nil (sent_by u b.messages);
    })

pub keep_placed : (kind : Kind) (first : ℕ) (s s' : State) (h h' : History) → Sound kind first s h → Turn kind s h s' h' → Placed s'.tasks s'.mailboxes s'.ready
keep_placed kind first s _ h _ w stay = w.placed
keep_placed kind first s _ h _ w (clock n) = w.placed
keep_placed kind first s _ h _ w (create t u ne range free) =
    let k : Stands t None s.mailboxes s.ready = subst (λ o. Stands t o s.mailboxes s.ready) free (w.placed t) in
    entering s w.placed kind _ t u None s.mailboxes (still s.mailboxes t) k.in_ready (λ m. (k.in_receivers m, k.in_senders m))
keep_placed kind first s _ h _ w (finish x r) = placed_leaving s w.placed x None r refl (λ _. (refl, refl))
keep_placed kind first s _ h _ w (sleep x until r) = placed_leaving s w.placed x (Some (acting (Asleep until) x)) r refl (λ _. (refl, refl))
keep_placed kind first s _ h _ w (hurry x d r) =
    let k = stood s w.placed (running s) x Ready r.here r.ready in
    kept s w.placed (running s) x (hurried d x) _ r.here refl (λ u. back kind _ u (running s) s.ready (omega (arith, k.in_ready)))
keep_placed kind first s _ h _ w (open_box m c z small free _ _ _) = boxed s w.placed m None _ free (λ u. record { receivers = refl; senders = refl })
keep_placed kind first s _ h _ w (close_box m b a none nobody) =
    boxed s w.placed m (Some b) None a.here (λ u. record { receivers = sym (ap (count u) nobody); senders = sym (ap (sent_by u) none) })
keep_placed kind first s _ h _ w (tell x st n e d) = placed_settled s w.placed x e
keep_placed kind first s _ h _ w (tell_plain x st e d) = placed_settled s w.placed x e
keep_placed kind first s _ h _ w (fetch x n bytes buffer e d held) = placed_settled s w.placed x e
keep_placed kind first s _ h _ w (await x m b r a none) = let t : ℕ = running s in
    waiting s w.placed m (Some b) _ a.here t x (Receiving m) r.here r.ready a.small (receiving_waits m)
    (λ u ne. record { receivers = omega (arith, count_append u b.receivers (t ∷ []), count_other u t [] ne); senders = refl })
    (λ f. (omega (arith, f.0, count_append t b.receivers (t ∷ []), count_self t [], one_self m), f.1))
keep_placed kind first s _ h _ w (take_plain m b y ys bytes buffer o q) = placed_taken s w.placed m b o.at.here y ys o.first q
keep_placed kind first s _ h _ w (take_wake m b y ys bytes buffer t x o q e k) =
    waking s w.placed m (Some b) _ o.at.here kind _ t x (Sending m y.number) _ e k (sending_waits m y.number)
    (λ u ne. record { receivers = refl; senders = sym (ap (sent_by u) o.first ∙ oldest_other y ys u t q ne) })
    (λ f. (f.0, cc (sym (ap (sent_by t) o.first ∙ oldest_own y ys t q) ∙ f.1 ∙ sends_here m y.number)))
keep_placed kind first s _ h _ w (queue_plain m b bytes a nobody _) = placed_queued s w.placed m b a.here s.next
keep_placed kind first s _ h _ w (queue_over m b y ys old bytes o q nobody _) =
    placed_queued (after_displacing kind s m b y ys) (placed_taken s w.placed m b o.at.here y ys o.first q)
    m (with_messages b ys) (changed_same s.mailboxes m (Some (with_messages b ys))) s.next
keep_placed kind first s _ h _ w (queue_wait x m b bytes r a nobody _) = let t : ℕ = running s in let y : Message = next_message s (Some (running s)) in
    waiting s w.placed m (Some b) _ a.here t x (Sending m s.next) r.here r.ready a.small (sending_waits m s.next)
    (λ u ne. record {
      receivers = refl;
      senders = sent_by_end u b.messages y ∙ ap (λ l. sent_by u b.messages ++ l) (other_number u t s.next ne) ∙ append-nil (sent_by u b.messages);
    })
    (λ f. (f.0, sent_by_end t b.messages y ∙ ap₂ (λ k l. k ++ l) f.1 (own_number t s.next) ∙ sym (sends_here m s.next)))
keep_placed kind first s _ h _ w (hand sender m b t x rs bytes a none oldest e k _) =
    waking s w.placed m (Some b) _ a.here kind _ t x (Receiving m) _ e k (receiving_waits m)
    (λ u ne. record { receivers = sym (ap (count u) oldest ∙ count_other u t rs ne); senders = refl })
    (λ f. (omega (arith, f.0, ap (count t) oldest, count_self t rs, one_self m), f.1))
keep_placed kind first s _ h _ w (waken t x until st e k) = let j = stood s w.placed t x (Asleep until) e k in
    entering s w.placed kind _ t x.urgency _ s.mailboxes (still s.mailboxes t) j.in_ready (λ m. (j.in_receivers m, j.in_senders m))
keep_placed kind first s _ h _ w (give_up t x m b e k a) =
    waking s w.placed m (Some b) _ a.here kind _ t x (Receiving m) _ e k (receiving_waits m)
    (λ u ne. record { receivers = removed_other u t b.receivers ne; senders = refl })
    (λ f. (omega (arith, f.0, removed_same t b.receivers, one_self m), f.1))
keep_placed kind first s _ h _ w (withdraw t x m b n e k a) =
    let there = found s w.placed m (Some b) a.here t x (Sending m n) e k in
    let gone = unqueued_sent t n b.messages (there.1 ∙ sends_here m n) (queued_once kind first s h w m b a n) in
    waking s w.placed m (Some b) _ a.here kind _ t x (Sending m n) _ e k (sending_waits m n)
    (λ u ne. record { receivers = refl; senders = gone.1 u ne }) (λ f. (f.0, gone.0))

-- Tasks

-- who waits or sleeps has no answer due
abbrev Calm : Option Task → Type 0
Calm o = (x : Task) → o ≡ Some x → readies x.activity ≡ 0 → x.due ≡ None

calm_none : Calm None
calm_none x e _ = let z : ◌≡◌ {A = ℕ} 0 1 = cc in absurd (omega arith)

calm_some : (v : Task) → (readies v.activity ≡ 0 → v.due ≡ None) → Calm (Some v)
calm_some v c x e = let same : v ≡ x = cc in subst (λ i. readies i.activity ≡ 0 → i.due ≡ None) same c

module _ (tasks : Tasks) (lives : List Life) (k : Tasked tasks lives) (t : ℕ) where
  -- one task changes, and no other's life
  retasked : (v : Option Task) (lives' : List Life) → (64 ≤ t → v ≡ None) → Calm v
      → living t lives' ≡ is_some v → ((u : ℕ) → (u ≡ t → ⊥) → living u lives' ≡ living u lives) → Tasked (changed tasks t v) lives'
  retasked v lives' r c a b = record {
    range = λ u. changed_both (λ i o. 64 ≤ i → o ≡ None) tasks t v r u (λ _. k.range u);
    calm = λ u. changed_both (λ _ o. Calm o) tasks t v c u (λ _. k.calm u);
    alive = λ u. changed_both (λ i o. living i lives' ≡ is_some o) tasks t v a u (λ ne. b u ne ∙ k.alive u);
  }

  -- it lives on
  lives_on : (x v : Task) → tasks t ≡ Some x → (readies v.activity ≡ 0 → v.due ≡ None) → Tasked (changed tasks t (Some v)) lives
  lives_on x v e c = retasked (Some v) lives
      (λ far. let z = k.range t far in cc) (calm_some v c) (k.alive t ∙ ap is_some e) (λ _ _. refl)

  -- it lives on, and is ready
  made_ready : (x : Task) (d : Option Due) → tasks t ≡ Some x → Tasked (changed tasks t (Some (record { urgency = x.urgency; activity = Ready; due = d }))) lives
  made_ready x d e = lives_on x (record { urgency = x.urgency; activity = Ready; due = d }) e (λ q. absurd (omega arith))

pub keep_tasked : (kind : Kind) (first : ℕ) (s s' : State) (h h' : History) → Sound kind first s h → Turn kind s h s' h' → Tasked s'.tasks h'.lives
keep_tasked kind first s _ h _ w stay = w.tasked
keep_tasked kind first s _ h _ w (clock n) = w.tasked
keep_tasked kind first s _ h _ w (create t u ne small free) = retasked s.tasks h.lives w.tasked t (Some (created u)) (Created t ∷ h.lives)
    (λ far. absurd (omega arith)) (calm_some (created u) (λ _. refl))
    (changed_same (λ i. living i h.lives) t true) (λ i other. changed_other (λ j. living j h.lives) t true i other)
keep_tasked kind first s _ h _ w (finish x r) = retasked s.tasks h.lives w.tasked (running s) None (Ended (running s) ∷ h.lives)
    (λ _. refl) calm_none
    (changed_same (λ i. living i h.lives) (running s) false) (λ i other. changed_other (λ j. living j h.lives) (running s) false i other)
keep_tasked kind first s _ h _ w (sleep x until r) = lives_on s.tasks h.lives w.tasked (running s) x _ r.here (λ _. r.free)
keep_tasked kind first s _ h _ w (hurry x d r) = lives_on s.tasks h.lives w.tasked (running s) x _ r.here (λ _. r.free)
keep_tasked kind first s _ h _ w (open_box m c z small free _ _ _) = w.tasked
keep_tasked kind first s _ h _ w (close_box m b a none nobody) = w.tasked
keep_tasked kind first s _ h _ w (tell x st n e d) = lives_on s.tasks h.lives w.tasked (running s) x _ e (λ _. refl)
keep_tasked kind first s _ h _ w (tell_plain x st e d) = lives_on s.tasks h.lives w.tasked (running s) x _ e (λ _. refl)
keep_tasked kind first s _ h _ w (fetch x n bytes buffer e d held) = lives_on s.tasks h.lives w.tasked (running s) x _ e (λ _. refl)
keep_tasked kind first s _ h _ w (await x m b r a none) = lives_on s.tasks h.lives w.tasked (running s) x _ r.here (λ _. r.free)
keep_tasked kind first s _ h _ w (take_plain m b y ys bytes buffer o q) = w.tasked
keep_tasked kind first s _ h _ w (take_wake m b y ys bytes buffer t x o q e k) = made_ready s.tasks h.lives w.tasked t x _ e
keep_tasked kind first s _ h _ w (queue_plain m b bytes a nobody _) = w.tasked
keep_tasked kind first s _ h _ w (queue_over m b y ys old bytes o q nobody _) = w.tasked
keep_tasked kind first s _ h _ w (queue_wait x m b bytes r a nobody _) = lives_on s.tasks h.lives w.tasked (running s) x _ r.here (λ _. r.free)
keep_tasked kind first s _ h _ w (hand sender m b t x rs bytes a none oldest e k _) = made_ready s.tasks h.lives w.tasked t x _ e
keep_tasked kind first s _ h _ w (waken t x until st e k) = made_ready s.tasks h.lives w.tasked t x _ e
keep_tasked kind first s _ h _ w (give_up t x m b e k a) = made_ready s.tasks h.lives w.tasked t x _ e
keep_tasked kind first s _ h _ w (withdraw t x m b n e k a) = made_ready s.tasks h.lives w.tasked t x _ e

-- The start

pub first_placed : (n : ℕ) → Placed (initial n).tasks (initial n).mailboxes (initial n).ready
first_placed n t = changed_both (λ i o. Stands i o (λ _. None) (0 ∷ [])) (λ _. None) 0 (Some idle_task)
    (record { in_ready = refl; in_receivers = λ _. refl; in_senders = λ _. refl; bounded = λ _ _. (refl, refl) }) t
    (λ ne. record { in_ready = count_other t 0 [] ne; in_receivers = λ _. refl; in_senders = λ _. refl; bounded = λ _ _. (refl, refl) })

pub first_tasked : (n : ℕ) → Tasked (initial n).tasks []
first_tasked n = record {
  range = λ u. changed_both (λ i o. 64 ≤ i → o ≡ None) (λ _. None) 0 (Some idle_task) (λ far. absurd (omega arith)) u (λ _ _. refl);
  calm = λ u. changed_both (λ _ o. Calm o) (λ _. None) 0 (Some idle_task) (calm_some idle_task (λ _. refl)) u (λ _. calm_none);
  alive = λ u. changed_both (λ i o. living i [] ≡ is_some o) (λ _. None) 0 (Some idle_task) refl u (λ ne. ne_eqb u 0 ne);
}

-- Places counted

-- a sum over joined lists, one by one
sum_each : {A B : Type 0} (f : B → ℕ) (g : A → List B) (xs : List A) → sum_of f (each g xs) ≡ sum_of (λ x. sum_of f (g x)) xs
sum_each f g [] = refl
sum_each f g (x ∷ xs) = sum_append f (g x) (each g xs) ∙ ap (λ k. sum_of f (g x) + k) (sum_each f g xs)

-- a sum over numbers at which f is 0, but for one
module _ (f : ℕ → ℕ) (i : ℕ) (zeros : (m : ℕ) → (m ≡ i → ⊥) → f m ≡ 0) where
  sum_past : (n k : ℕ) → i < n → sum_of f (numbers_from n k) ≡ 0
  sum_past n zero l = refl
  sum_past n (suc k) l = omega (arith, zeros n (λ e. omega arith), sum_past (n + 1) k (omega arith))

  sum_single : (n k : ℕ) → n ≤ i → i < n + k → sum_of f (numbers_from n k) ≡ f i
  sum_single n zero a b = absurd (omega arith)
  sum_single n (suc k) a b = ⊎_elim
      (λ (e : n ≡ i). omega (arith, ap f e, sum_past (n + 1) k (omega arith)))
      (λ ne. omega (arith, zeros n ne, sum_single (n + 1) k (omega arith) (omega arith)))
      (cases_eq n i)

-- a sum over the mailboxes, of which one alone has a share
single_mailbox : {B : Type 0} (f : B → ℕ) (g : Mailbox → List B) (boxes : Mailboxes) (i : ℕ) → i < 32 → ((m : ℕ) → (m ≡ i → ⊥) → sum_of f (of_option (boxes m) g) ≡ 0)
    → sum_of f (of_mailboxes g boxes) ≡ sum_of f (of_option (boxes i) g)
unfolding of_mailboxes
single_mailbox f g boxes i l zeros = sum_each f (λ m. of_option (boxes m) g) (numbers_from 0 32) ∙ sum_single (λ m. sum_of f (of_option (boxes m) g)) i zeros 0 32 (omega arith) (omega arith)

count_receivers_in : (t : ℕ) (o : Option Mailbox) → count t (of_option o (λ b. b.receivers)) ≡ count t (receivers_in o)
count_receivers_in t None = refl
count_receivers_in t (Some b) = refl

count_senders_in : (t : ℕ) (o : Option Mailbox) → count t (of_option o (λ b. each sender_in b.messages)) ≡ length (sent_by t (messages_in o))
count_senders_in t None = refl
count_senders_in t (Some b) = count_senders t b.messages

module _ (s : State) (t : ℕ) (o : Option Task) (k : Stands t o s.mailboxes s.ready) where
  -- where one mailbox i is the only one at which it may stand
  at_mailbox : (i : ℕ) → i < 32 → ((m : ℕ) → (m ≡ i → ⊥) → (by (receives m) o ≡ 0) × (listed (sends m) o ≡ []))
      → (count t (receivers s) ≡ by (receives i) o) × (count t (senders s) ≡ length (listed (sends i) o))
  at_mailbox i l only = (
    single_mailbox (λ x. cond (eqb t x) 1 0) (λ b. b.receivers) s.mailboxes i l (λ m ne. count_receivers_in t (s.mailboxes m) ∙ k.in_receivers m ∙ (only m ne).0)
        ∙ count_receivers_in t (s.mailboxes i) ∙ k.in_receivers i,
    single_mailbox (λ x. cond (eqb t x) 1 0) (λ b. each sender_in b.messages) s.mailboxes i l (λ m ne. count_senders_in t (s.mailboxes m) ∙ ap length (k.in_senders m ∙ (only m ne).1))
        ∙ count_senders_in t (s.mailboxes i) ∙ ap length (k.in_senders i),
  )

  -- where it waits at no mailbox
  at_none : ((m : ℕ) → (by (receives m) o ≡ 0) × (listed (sends m) o ≡ [])) → (count t (receivers s) ≡ 0) × (count t (senders s) ≡ 0)
  at_none none = let r = at_mailbox 0 (omega arith) (λ m _. none m) in (r.0 ∙ (none 0).0, r.1 ∙ ap length (none 0).1)

module _ (s : State) (t : ℕ) where
  -- who does a stands at one place
  at_one_place : (x : Task) (a : Activity) → Stands t (Some (acting a x)) s.mailboxes s.ready → count t s.ready + (count t (receivers s) + (count t (senders s) + asleep_by a)) ≡ 1
  at_one_place x Ready k = omega (arith, k.in_ready, at_none s t (Some (acting Ready x)) k (λ _. (refl, refl)))
  at_one_place x (Receiving i) k =
      let small : (32 ≤ i → ⊥) = λ l. omega (arith, (k.bounded i l).0, one_self i) in
      omega (arith, k.in_ready, at_mailbox s t (Some (acting (Receiving i) x)) k i (omega arith) (receiving_waits i).elsewhere, one_self i)
  at_one_place x (Sending i n) k =
      let small : (32 ≤ i → ⊥) = λ l. omega (arith, ap length (sym (sends_here i n) ∙ (k.bounded i l).1)) in
      omega (arith, k.in_ready, at_mailbox s t (Some (acting (Sending i n) x)) k i (omega arith) (sending_waits i n).elsewhere, ap length (sends_here i n))
  at_one_place x (Asleep until) k = omega (arith, k.in_ready, at_none s t (Some (acting (Asleep until) x)) k (λ _. (refl, refl)))

  -- who lives stands at one place, who does not at none
  at_places : (o : Option Task) → Stands t o s.mailboxes s.ready → count t s.ready + (count t (receivers s) + (count t (senders s) + asleep o)) ≡ cond (is_some o) 1 0
  at_places None k = omega (arith, k.in_ready, at_none s t None k (λ _. (refl, refl)))
  at_places (Some x) k = at_one_place x x.activity k

pub places_hold : (s : State) (lives : List Life) → Placed s.tasks s.mailboxes s.ready → Tasked s.tasks lives → (t : ℕ) → places s t ≡ cond (living t lives) 1 0
places_hold s lives p k t = at_places s t (s.tasks t) (p t) ∙ ap (λ c. cond c 1 0) (sym (k.alive t))
