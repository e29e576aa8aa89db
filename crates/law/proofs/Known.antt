-- What is known of the running task, and of the tasks that wait at mailboxes.
use Rattle.std.proofs.Common.{◌≡◌, ℕ, ◌<◌, ◌≤◌, Bool, true, false, cond, eqb, List, [], ◌∷◌, ◌++◌, Some, None, Option, sym, refl, ap, ◌∙◌, arith}
use Rattle.std.proofs.lemmas.Bool.{eqb-true, eq-eqb}
use Rattle.art.specs.declared.task.Activity.{Activity}
use Rattle.art.specs.declared.task.Activity.TheVariants.{Ready, Receiving, Sending, Asleep}
use Rattle.art.specs.declared.task.Message.{Message}
use Rattle.art.specs.declared.task.Task.{Task}
use Rattle.art.specs.State.{Kind, Mailbox, State, first, running}
use Rattle.art.specs.Verbs.{due_of}
use Rattle.law.specs.History.{History}
use Rattle.law.specs.Law.{count}
use Rattle.law.proofs.Counting.{count_self, one_self}
use Rattle.law.proofs.Turn.{Runs, At}
use Rattle.law.proofs.Sound.{Tasks, Mailboxes, readies, receives, sends, by, listed, receivers_in, messages_in, number_if, sent_by, Placed, Sound}

-- What a task does, by where it stands

pub is_ready : (a : Activity) → 1 ≤ readies a → a ≡ Ready
is_ready Ready l = refl
is_ready (Receiving _) l = absurd (omega arith)
is_ready (Sending _ _) l = absurd (omega arith)
is_ready (Asleep _) l = absurd (omega arith)

pub is_receiving : (m : ℕ) (a : Activity) → 1 ≤ receives m a → a ≡ Receiving m
is_receiving m Ready l = absurd (omega arith)
is_receiving m (Receiving i) l = go (eqb m i) refl l
  where
    go : (b : Bool) → eqb m i ≡ b → 1 ≤ cond b 1 0 → Receiving i ≡ Receiving m
    go true e l = ap Receiving (sym (eqb-true m i e))
    go false e l = absurd (omega arith)
is_receiving m (Sending _ _) l = absurd (omega arith)
is_receiving m (Asleep _) l = absurd (omega arith)

pub is_sending : (m n : ℕ) (ns : List ℕ) (a : Activity) → sends m a ≡ n ∷ ns → a ≡ Sending m n
is_sending m n ns Ready e = let z : ◌≡◌ {A = ℕ} 0 1 = cc in absurd (omega arith)
is_sending m n ns (Receiving _) e = let z : ◌≡◌ {A = ℕ} 0 1 = cc in absurd (omega arith)
is_sending m n ns (Sending i k) e = go (eqb m i) refl e
  where
    go : (b : Bool) → eqb m i ≡ b → cond b (k ∷ []) [] ≡ n ∷ ns → Sending i k ≡ Sending m n
    go true q e = let j = eqb-true m i q in cc
    go false q e = let z : ◌≡◌ {A = ℕ} 0 1 = cc in absurd (omega arith)
is_sending m n ns (Asleep _) e = let z : ◌≡◌ {A = ℕ} 0 1 = cc in absurd (omega arith)

-- who stands somewhere lives
pub lives_by : (f : Activity → ℕ) (o : Option Task) → 1 ≤ by f o → (x : Task) × (o ≡ Some x) × (1 ≤ f x.activity)
lives_by f None l = absurd (omega arith)
lives_by f (Some x) l = (x, refl, l)

pub lives_listed : (f : Activity → List ℕ) (n : ℕ) (ns : List ℕ) (o : Option Task) → listed f o ≡ n ∷ ns → (x : Task) × (o ≡ Some x) × (f x.activity ≡ n ∷ ns)
lives_listed f n ns None e = let z : ◌≡◌ {A = ℕ} 0 1 = cc in absurd (omega arith)
lives_listed f n ns (Some x) e = (x, refl, e)

-- The running task

-- where it is not task 0, it is ready
pub runs_ready : (tasks : Tasks) (boxes : Mailboxes) (l : List ℕ) → Placed tasks boxes l → (first l ≡ 0 → ⊥) → (x : Task) × (tasks (first l) ≡ Some x) × (x.activity ≡ Ready)
runs_ready tasks boxes [] p ne = absurd (ne refl)
runs_ready tasks boxes (t ∷ l) p ne =
    let k = lives_by readies (tasks t) (omega (arith, (p t).in_ready, count_self t l)) in
    (k.0, k.1, is_ready k.0.activity k.2)

-- a mailbox where a task waits is in use
used_by_receiver : (t : ℕ) (o : Option Mailbox) → 1 ≤ count t (receivers_in o) → (b : Mailbox) × (o ≡ Some b)
used_by_receiver t None l = absurd (omega arith)
used_by_receiver t (Some b) l = (b, refl)

used_by_sender : (t n : ℕ) (o : Option Mailbox) → sent_by t (messages_in o) ≡ n ∷ [] → (b : Mailbox) × (o ≡ Some b)
used_by_sender t n None e = let z : ◌≡◌ {A = ℕ} 0 1 = cc in absurd (omega arith)
used_by_sender t n (Some b) e = (b, refl)

below : (m : ℕ) → (32 ≤ m → ⊥) → m < 32
below m ne = omega arith

module _ (kind : Kind) (first : ℕ) (s : State) (h : History) (w : Sound kind first s h) where
  -- the running task lives and is ready, where it is not task 0
  pub runs : (running s ≡ 0 → ⊥) → due_of (s.tasks (running s)) ≡ None → (x : Task) × Runs s x
  runs ne free =
      let k = runs_ready s.tasks s.mailboxes s.ready w.placed ne in
      (k.0, record { here = k.1; ready = k.2; free = sym (ap due_of k.1) ∙ free; busy = ne })

  -- the sender of the oldest message of a mailbox waits with it
  pub sender_waits : (m : ℕ) (b : Mailbox) → s.mailboxes m ≡ Some b → (y : Message) (ys : List Message) → b.messages ≡ y ∷ ys → (t : ℕ) → y.sender ≡ Some t
      → (x : Task) × (s.tasks t ≡ Some x) × (x.activity ≡ Sending m y.number)
  sender_waits m b here y ys e t q =
      let k = lives_listed (sends m) y.number (sent_by t ys) (s.tasks t) (sym ((w.placed t).in_senders m)
      ∙ ap (λ o. sent_by t (messages_in o)) here ∙ ap (sent_by t) e ∙ ap (λ o. number_if t y.number o ++ sent_by t ys) q
      ∙ ap (λ c. cond c (y.number ∷ []) [] ++ sent_by t ys) (eq-eqb t t refl)) in
      (k.0, k.1, is_sending m y.number (sent_by t ys) k.0.activity k.2)

  -- the oldest receiver of a mailbox waits there
  pub receiver_waits : (m : ℕ) (b : Mailbox) → s.mailboxes m ≡ Some b → (t : ℕ) (ts : List ℕ) → b.receivers ≡ t ∷ ts
      → (x : Task) × (s.tasks t ≡ Some x) × (x.activity ≡ Receiving m)
  receiver_waits m b here t ts e =
      let k = lives_by (receives m) (s.tasks t) (omega (arith, (w.placed t).in_receivers m, ap (λ o. count t (receivers_in o)) here, ap (count t) e, count_self t ts)) in
      (k.0, k.1, is_receiving m k.0.activity k.2)

  -- a task that waits at a mailbox, as a receiver or with a message, waits at one in use
  pub waits_at_receivers : (t : ℕ) (x : Task) (m : ℕ) → s.tasks t ≡ Some x → x.activity ≡ Receiving m → (b : Mailbox) × At s m b
  waits_at_receivers t x m e q =
      let here : by (receives m) (s.tasks t) ≡ 1 = ap (by (receives m)) e ∙ ap (receives m) q ∙ one_self m in
      let small : m < 32 = below m (λ l. omega (arith, ((w.placed t).bounded m l).0)) in
      let k = used_by_receiver t (s.mailboxes m) (omega (arith, (w.placed t).in_receivers m)) in
      (k.0, record { small = small; here = k.1 })

  pub waits_at_senders : (t : ℕ) (x : Task) (m n : ℕ) → s.tasks t ≡ Some x → x.activity ≡ Sending m n → (b : Mailbox) × At s m b
  waits_at_senders t x m n e q =
      let here : listed (sends m) (s.tasks t) ≡ n ∷ [] = ap (listed (sends m)) e ∙ ap (sends m) q ∙ ap (λ c. cond c (n ∷ []) []) (eq-eqb m m refl) in
      let small : m < 32 = below m (λ l. let z : ◌≡◌ {A = ℕ} 0 1 = cc (here, ((w.placed t).bounded m l).1) in omega arith) in
      let k = used_by_sender t n (s.mailboxes m) ((w.placed t).in_senders m ∙ here) in
      (k.0, record { small = small; here = k.1 })
