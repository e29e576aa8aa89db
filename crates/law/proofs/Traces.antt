-- Each message that is queued, given, due, told of, held or brought is traced to its acceptance, by turns.
use Rattle.std.proofs.Common.{◌≡◌, ℕ, ◌≤◌, cond, eqb, List, [], ◌∷◌, ◌++◌, length, drop, Some, None, Option, sym, refl, ap, ◌∙◌, subst, arith}
use Rattle.std.specs.List.{ContainsAt as Has, AllByRecursion}
use Rattle.std.proofs.ByRecursion.{All-append, All-weaker, All-push, has_append_right}
use Rattle.std.proofs.lemmas.Bool.{cond_both, eqb-true, eq-eqb}
use Rattle.store.specs.Meaning.{Contents}
use Rattle.answers.specs.declared.answer.Status.{Status}
use Rattle.answers.specs.declared.answer.Status.TheVariants.{Ok as OK, Blocked as BLOCKED, DeadlineReached as DEADLINE_REACHED}
use Rattle.art.specs.declared.task.Activity.TheVariants.{Receiving, Sending, Asleep}
use Rattle.art.specs.declared.task.Due.{Due}
use Rattle.art.specs.declared.task.Due.TheVariants.{Sent, Given, Plain}
use Rattle.art.specs.declared.task.Message.{Message}
use Rattle.art.specs.declared.task.Task.{Task}
use Rattle.art.specs.State.{Kind, Mailbox, State, changed, idle_task, initial, running}
use Rattle.art.specs.Verbs.{due_of, join_receivers, leave_receivers, unqueue, unqueued, with_messages, with_receivers}
use Rattle.law.specs.History.{Acceptance, HandOver, Notice, Delivery, History, no_history, notice, of_option}
use Rattle.law.specs.Law.{count, accepted, AsSent, Bytes, SentBy}
use Rattle.law.proofs.Counting.{changed_both}
use Rattle.law.proofs.Turn.{acting, answered, hurried, created, with_accepted, with_handed_over, with_withdrawn, with_displaced, with_told, with_brought, At, Oldest}
use Rattle.law.proofs.Turn.{Turn, stay, clock, create, finish, sleep, hurry, open_box, close_box, tell, tell_plain, fetch, await}
use Rattle.law.proofs.Turn.{take_plain, take_wake, queue_plain, queue_over, queue_wait, hand, waken, give_up, withdraw}
use Rattle.law.proofs.Unique.{first_of, unique}
use Rattle.law.proofs.Sound.{Mailboxes, Tasks, Sound, Traced, QueuedAt, GivenTo, SentAs, sent_by, number_if, messages_in, listed, sends}

-- A longer history keeps a trace

record Longer (h h' : History) : Type 0 where
  accepted : (a : Acceptance) → Has h.accepted a → Has h'.accepted a
  handed_over : (x : HandOver) → Has h.handed_over x → Has h'.handed_over x

module _ (h h' : History) (l : Longer h h') where
  longer_queued : (m size : ℕ) (x : Message) → QueuedAt h m size x → QueuedAt h' m size x
  longer_queued m size x r =
      record { sending = r.sending; was_accepted = l.accepted r.sending r.was_accepted; mailbox = r.mailbox; number = r.number; sender = r.sender; long = r.long }

  longer_given : (t k : ℕ) → GivenTo h t k → GivenTo h' t k
  longer_given t k r =
      record {
        sending = r.sending;
        handing = r.handing;
        was_accepted = l.accepted r.sending r.was_accepted;
        was_handed_over = l.handed_over r.handing r.was_handed_over;
        number_sent = r.number_sent;
        number_handed_over = r.number_handed_over;
        mailbox = r.mailbox;
        receiver = r.receiver;
      }

  longer_sent : (t k : ℕ) → SentBy h t k → SentBy h' t k
  longer_sent t k r = record { sending = r.sending; was_accepted = l.accepted r.sending r.was_accepted; number = r.number; sender = r.sender }

  longer_held : (k : ℕ) (bytes : List ℕ) → SentAs h k bytes → SentAs h' k bytes
  longer_held k bytes r = record { sending = r.sending; was_accepted = l.accepted r.sending r.was_accepted; number = r.number; carried = r.carried }

  longer_brought : (d : Delivery) → AsSent h d → AsSent h' d
  longer_brought d r =
      record {
        sending = r.sending;
        handing = r.handing;
        was_accepted = l.accepted r.sending r.was_accepted;
        was_handed_over = l.handed_over r.handing r.was_handed_over;
        number_sent = r.number_sent;
        number_handed_over = r.number_handed_over;
        mailbox = r.mailbox;
        receiver = r.receiver;
        long = r.long;
        front = r.front;
      }

longer_by : (h h' : History) (more : List Acceptance) (xs : List HandOver) → h'.accepted ≡ more ++ h.accepted → h'.handed_over ≡ xs ++ h.handed_over → Longer h h'
longer_by h h' more xs p q = record {
  accepted = λ a e. subst (λ l. Has l a) (sym p) (has_append_right more h.accepted a e);
  handed_over = λ x e. subst (λ l. Has l x) (sym q) (has_append_right xs h.handed_over x e);
}

-- Traces by the tables and the lists of a state and a history

-- a notice goes to the sender of the message that it tells of
abbrev ToldOf : History → Notice → Type 0
ToldOf h x = SentBy h x.task x.number

-- the queue of mailbox m, the answer due of task t, and what is held under the number k
abbrev Queue : History → ℕ → Option Mailbox → Type 0
Queue h m None = Unit {0}
Queue h m (Some b) = AllByRecursion (QueuedAt h m b.size) b.messages

abbrev Owed : History → ℕ → Option Due → Type 0
Owed h t None = Unit {0}
Owed h t (Some (Sent st k)) = SentBy h t k
Owed h t (Some (Given k)) = GivenTo h t k
Owed h t (Some (Plain st)) = Unit {0}

abbrev Stored : History → ℕ → Option (List ℕ) → Type 0
Stored h k None = Unit {0}
Stored h k (Some bytes) = SentAs h k bytes

record Traces (h : History) (boxes : Mailboxes) (tasks : Tasks) (held : Contents) (told : List Notice) (brought : List Delivery) : Type 0 where
  queues : (m : ℕ) → Queue h m (boxes m)
  dues : (t : ℕ) → Owed h t (due_of (tasks t))
  store : (k : ℕ) → Stored h k (held k)
  notices : AllByRecursion (ToldOf h) told
  deliveries : AllByRecursion (AsSent h) brought

-- the traces of the state s, with what is told and brought in h, in the history h'
abbrev TracesAfter : State → History → History → Type 0
TracesAfter s h h' = Traces h' s.mailboxes s.tasks s.held h.told h.brought

traced_by : (s : State) (h : History) → TracesAfter s h h → Traced s h
traced_by s h r = record {
  of_queued = λ m b e. subst (Queue h m) e (r.queues m);
  of_given = λ t k e. subst (Owed h t) e (r.dues t);
  of_due = λ t st k e. subst (Owed h t) e (r.dues t);
  of_held = λ k bytes e. subst (Stored h k) e (r.store k);
  of_told = r.notices;
  of_brought = r.deliveries;
}

-- the traces of a state, in a history that is as long or longer
traces_of : (s : State) (h h' : History) → Longer h h' → Traced s h → TracesAfter s h h'
traces_of s h h' l r = record {
  queues = λ m. queue m (s.mailboxes m) (r.of_queued m);
  dues = λ t. owed t (due_of (s.tasks t)) (r.of_given t) (r.of_due t);
  store = λ k. stored k (s.held k) (r.of_held k);
  notices = All-weaker (ToldOf h) (ToldOf h') (λ x. longer_sent h h' l x.task x.number) h.told r.of_told;
  deliveries = All-weaker _ _ (longer_brought h h' l) h.brought r.of_brought;
}
  where
    queue : (m : ℕ) (o : Option Mailbox) → ((b : Mailbox) → o ≡ Some b → AllByRecursion (QueuedAt h m b.size) b.messages) → Queue h' m o
    queue m None q = tt
    queue m (Some b) q = All-weaker _ _ (longer_queued h h' l m b.size) b.messages (q b refl)

    owed : (t : ℕ) (o : Option Due) → ((k : ℕ) → o ≡ Some (Given k) → GivenTo h t k) → ((st : Status) (k : ℕ) → o ≡ Some (Sent st k) → SentBy h t k) → Owed h' t o
    owed t None g d = tt
    owed t (Some (Sent st k)) g d = longer_sent h h' l t k (d st k refl)
    owed t (Some (Given k)) g d = longer_given h h' l t k (g k refl)
    owed t (Some (Plain st)) g d = tt

    stored : (k : ℕ) (o : Option (List ℕ)) → ((bytes : List ℕ) → o ≡ Some bytes → SentAs h k bytes) → Stored h' k o
    stored k None q = tt
    stored k (Some bytes) q = longer_held h h' l k bytes (q bytes refl)

-- one place changed, or one more in a list
module _ {h : History} {boxes : Mailboxes} {tasks : Tasks} {held : Contents} {told : List Notice} {brought : List Delivery} (r : Traces h boxes tasks held told brought) where
  put_queue : (m : ℕ) (v : Option Mailbox) → Queue h m v → Traces h (changed boxes m v) tasks held told brought
  put_queue m v q = record { queues = λ n. changed_both (Queue h) boxes m v q n (λ _. r.queues n); dues = r.dues; store = r.store; notices = r.notices; deliveries = r.deliveries }

  put_due : (t : ℕ) (v : Option Task) → Owed h t (due_of v) → Traces h boxes (changed tasks t v) held told brought
  put_due t v q =
      record { queues = r.queues; dues = λ n. changed_both (λ u o. Owed h u (due_of o)) tasks t v q n (λ _. r.dues n); store = r.store; notices = r.notices; deliveries = r.deliveries }

  put_held : (k : ℕ) (v : Option (List ℕ)) → Stored h k v → Traces h boxes tasks (changed held k v) told brought
  put_held k v q = record { queues = r.queues; dues = r.dues; store = λ n. changed_both (Stored h) held k v q n (λ _. r.store n); notices = r.notices; deliveries = r.deliveries }

  put_told : (xs : List Notice) → AllByRecursion (ToldOf h) xs → Traces h boxes tasks held (xs ++ told) brought
  put_told xs q = record { queues = r.queues; dues = r.dues; store = r.store; notices = All-append _ xs told q r.notices; deliveries = r.deliveries }

  put_brought : (d : Delivery) → AsSent h d → Traces h boxes tasks held told (d ∷ brought)
  put_brought d q = record { queues = r.queues; dues = r.dues; store = r.store; notices = r.notices; deliveries = (q, r.deliveries) }

  -- an answer due, and the messages of a mailbox
  in_due : (t : ℕ) (x : Task) (d : Due) → tasks t ≡ Some x → x.due ≡ Some d → Owed h t (Some d)
  in_due t x d e q = subst (Owed h t) (ap due_of e ∙ q) (r.dues t)

  in_queue : (m : ℕ) (b : Mailbox) (ms : List Message) → boxes m ≡ Some b → b.messages ≡ ms → AllByRecursion (QueuedAt h m b.size) ms
  in_queue m b ms e q = subst (AllByRecursion (QueuedAt h m b.size)) q (subst (Queue h m) e (r.queues m))

-- What the turns need

unowed : (h : History) (t : ℕ) (o : Option Due) → o ≡ None → Owed h t o
unowed h t o e = subst (Owed h t) (sym e) tt

all_noticed : (h : History) (t : ℕ) (st : Status) (n : ℕ) → SentBy h t n → AllByRecursion (ToldOf h) (notice t st n)
all_noticed h t OK n r = (r, tt)
all_noticed h t BLOCKED n r = tt
all_noticed h t DEADLINE_REACHED n r = (r, tt)

all_unqueued : (P : Message → Type 0) (n : ℕ) (ms : List Message) → AllByRecursion P ms → AllByRecursion P (unqueued n ms)
all_unqueued P n [] a = tt
all_unqueued P n (x ∷ xs) a = cond_both (eqb n x.number) xs (x ∷ unqueued n xs) (AllByRecursion P) (λ _. a.1) (λ _. (a.0, all_unqueued P n xs a.1))

-- a queued message with a sender was sent by it
sent_queued : (h : History) (m size t : ℕ) (y : Message) → QueuedAt h m size y → y.sender ≡ Some t → SentBy h t y.number
sent_queued h m size t y r e = record { sending = r.sending; was_accepted = r.was_accepted; number = r.number; sender = r.sender ∙ e }

-- a queue that has just one message of task t
sent_found : (h : History) (m size t n : ℕ) (ms : List Message) → AllByRecursion (QueuedAt h m size) ms → sent_by t ms ≡ n ∷ [] → SentBy h t n
sent_found h m size t n [] a e = let z : ◌≡◌ {A = ℕ} 0 1 = cc in absurd (omega arith)
sent_found h m size t n (y ∷ ys) a e = go y.sender refl e (sent_found h m size t n ys a.1)
  where
    go : (o : Option ℕ) → y.sender ≡ o → number_if t y.number o ++ sent_by t ys ≡ n ∷ [] → (sent_by t ys ≡ n ∷ [] → SentBy h t n) → SentBy h t n
    go None q e rest = rest e
    go (Some u) q e rest = cond_both (eqb t u) (y.number ∷ []) [] (λ l. l ++ sent_by t ys ≡ n ∷ [] → SentBy h t n)
        (λ same e. let k : y.number ≡ n = cc in subst (SentBy h t) k (sent_queued h m size t y a.0 (q ∙ ap Some (sym (eqb-true t u same)))))
        (λ _. rest) e

-- what task t is given, with the bytes that are held, is as it was sent
delivered : (h : History) → ((k : ℕ) → count k (accepted h) ≤ 1) → (t n : ℕ) (bytes buffer : List ℕ) → GivenTo h t n → SentAs h n bytes
    → AsSent h (record { task = t; number = n; length = length bytes; lent = buffer; left = bytes ++ drop (length bytes) buffer })
delivered h once t n bytes buffer g r =
    let same = unique h.accepted g.sending r.sending g.was_accepted r.was_accepted (g.number_sent ∙ sym r.number) (once g.sending.number) in
    record {
      sending = r.sending;
      handing = g.handing;
      was_accepted = r.was_accepted;
      was_handed_over = g.was_handed_over;
      number_sent = r.number;
      number_handed_over = g.number_handed_over;
      mailbox = g.mailbox ∙ ap (λ a. a.mailbox) same;
      receiver = g.receiver;
      long = ap length (sym r.carried);
      front = ap (λ z. z ++ drop (length z) buffer) (sym r.carried);
    }

-- an accepted message is handed over to task t
given_over : (h : History) (m n t : ℕ) (a : Acceptance) → Has h.accepted a → a.mailbox ≡ m → a.number ≡ n → Has h.handed_over (record { mailbox = m; number = n; receiver = t }) → GivenTo h t n
given_over h m n t a p at e q = record {
  sending = a;
  handing = record { mailbox = m; number = n; receiver = t };
  was_accepted = p;
  was_handed_over = q;
  number_sent = e;
  number_handed_over = refl;
  mailbox = sym at;
  receiver = refl;
}

abbrev new_acceptance : ℕ → ℕ → List ℕ → Option ℕ → Acceptance
new_acceptance m n bytes sender = record { mailbox = m; number = n; bytes = bytes; sender = sender }

-- an accepted message is held, and comes to the end of the queue ms of mailbox m, which is b
module _ (h : History) (m n : ℕ) (bytes : List ℕ) (sender : Option ℕ) (new : Has h.accepted (new_acceptance m n bytes sender)) where
  stored_new : SentAs h n bytes
  stored_new = record { sending = new_acceptance m n bytes sender; was_accepted = new; number = refl; carried = refl }

  queues_next : {boxes : Mailboxes} {tasks : Tasks} {held : Contents} {told : List Notice} {brought : List Delivery} → Traces h boxes tasks held told brought
      → (b : Mailbox) (ms : List Message) → length bytes ≡ b.size → AllByRecursion (QueuedAt h m b.size) ms
      → Traces h (changed boxes m (Some (with_messages b (ms ++ (record { number = n; sender = sender } ∷ []))))) tasks (changed held n (Some bytes)) told brought
  queues_next r b ms e a = put_queue (put_held r n (Some bytes) stored_new) m (Some _) (All-push (QueuedAt h m b.size) ms _ a
      (record { sending = new_acceptance m n bytes sender; was_accepted = new; mailbox = refl; number = refl; sender = refl; long = e }))

  -- if it is handed over at once, its sender is told, if it waits
  noticed_new : AllByRecursion (ToldOf h) (of_option sender (λ u. notice u OK n))
  noticed_new = go sender new
    where
      go : (o : Option ℕ) → Has h.accepted (new_acceptance m n bytes o) → AllByRecursion (ToldOf h) (of_option o (λ u. notice u OK n))
      go None new = tt
      go (Some u) new = (record { sending = new_acceptance m n bytes (Some u); was_accepted = new; number = refl; sender = refl }, tt)

-- the running task takes message n at mailbox m
abbrev with_taken : State → ℕ → ℕ → List ℕ → List ℕ → History → History
with_taken s m n bytes buffer h = with_brought (running s) n bytes buffer (with_handed_over m n (running s) h)

module _ (kind : Kind) (first : ℕ) where
  -- the traces of a state in the history after a turn
  grown : (s : State) (h h' : History) (more : List Acceptance) (xs : List HandOver) → h'.accepted ≡ more ++ h.accepted → h'.handed_over ≡ xs ++ h.handed_over
      → Sound kind first s h → TracesAfter s h h'
  grown s h h' more xs p q w = traces_of s h h' (longer_by h h' more xs p q) w.traced

  -- a task that waits with message n is its sender
  pub sent_waiting : (s : State) (h : History) → Sound kind first s h → (t : ℕ) (x : Task) (m : ℕ) (b : Mailbox) (n : ℕ) → s.tasks t ≡ Some x → x.activity ≡ Sending m n → At s m b → SentBy h t n
  sent_waiting s h w t x m b n e q at = sent_found h m b.size t n b.messages (w.traced.of_queued m b at.here)
      (ap (λ o. sent_by t (messages_in o)) (sym at.here) ∙ (w.placed t).in_senders m ∙ ap (listed (sends m)) e ∙ ap (sends m) q ∙ ap (λ c. cond c (n ∷ []) []) (eq-eqb m m refl))

  -- the running task takes the oldest message, y, of mailbox m, which leaves the messages ys
  module _ (s : State) (h : History) (w : Sound kind first s h) (m : ℕ) (b : Mailbox) (y : Message) (ys : List Message) (bytes buffer : List ℕ) (o : Oldest s m b y ys bytes) where
    before_take : TracesAfter s h (with_taken s m y.number bytes buffer h)
    before_take = grown s h _ [] (_ ∷ []) refl refl w

    taken_queue : AllByRecursion (QueuedAt (with_taken s m y.number bytes buffer h) m b.size) (y ∷ ys)
    taken_queue = in_queue before_take m b (y ∷ ys) o.at.here o.first

    taken_given : GivenTo (with_taken s m y.number bytes buffer h) (running s) y.number
    taken_given = let q = taken_queue.0 in given_over _ m y.number (running s) q.sending q.was_accepted q.mailbox q.number (first_of _ h.handed_over)

    taken : Traces (with_taken s m y.number bytes buffer h) (changed s.mailboxes m (Some (with_messages b ys))) s.tasks (changed s.held y.number None)
        h.told (with_taken s m y.number bytes buffer h).brought
    taken = put_brought (put_queue (put_held before_take y.number None tt) m (Some (with_messages b ys)) taken_queue.1) _
        (delivered _ w.balanced.once (running s) y.number bytes buffer taken_given (subst (Stored _ y.number) o.held (before_take.store y.number)))

  pub keep_traced : (s s' : State) (h h' : History) → Sound kind first s h → Turn kind s h s' h' → Traced s' h'
  keep_traced s _ h _ w stay = w.traced
  keep_traced s _ h _ w (clock n) = traced_by _ _ (grown s h h [] [] refl refl w)
  keep_traced s _ h _ w (create t u _ _ _) = traced_by _ _ (put_due (grown s h _ [] [] refl refl w) t (Some (created u)) tt)
  keep_traced s _ h _ w (finish x _) = traced_by _ _ (put_due (grown s h _ [] [] refl refl w) (running s) None tt)
  keep_traced s _ h _ w (sleep x until r) = traced_by _ _ (put_due (grown s h h [] [] refl refl w) (running s) (Some (acting (Asleep until) x)) (unowed h (running s) x.due r.free))
  keep_traced s _ h _ w (hurry x d r) = traced_by _ _ (put_due (grown s h h [] [] refl refl w) (running s) (Some (hurried d x)) (unowed h (running s) x.due r.free))
  keep_traced s _ h _ w (open_box m c z _ _ _ _ _) = traced_by _ _ (put_queue (grown s h h [] [] refl refl w) m _ tt)
  keep_traced s _ h _ w (close_box m b _ _ _) = traced_by _ _ (put_queue (grown s h h [] [] refl refl w) m None tt)
  keep_traced s _ h _ w (tell x st n e d) =
      let r = grown s h (with_told (notice (running s) st n) h) [] [] refl refl w in
      traced_by _ _ (put_told (put_due r (running s) (Some (answered x)) tt) (notice (running s) st n) (all_noticed _ (running s) st n (in_due r (running s) x (Sent st n) e d)))
  keep_traced s _ h _ w (tell_plain x st e d) = traced_by _ _ (put_due (grown s h h [] [] refl refl w) (running s) (Some (answered x)) tt)
  keep_traced s _ h _ w (fetch x n bytes buffer e d held) =
      let r = grown s h (with_brought (running s) n bytes buffer h) [] [] refl refl w in
      traced_by _ _ (put_brought (put_due (put_held r n None tt) (running s) (Some (answered x)) tt) _
      (delivered _ w.balanced.once (running s) n bytes buffer (in_due r (running s) x (Given n) e d) (subst (Stored _ n) held (r.store n))))
  keep_traced s _ h _ w (await x m b r at _) =
      let g = grown s h h [] [] refl refl w in
      traced_by _ _ (put_due (put_queue g m (Some (join_receivers (running s) b)) (in_queue g m b b.messages at.here refl))
      (running s) (Some (acting (Receiving m) x)) (unowed h (running s) x.due r.free))
  keep_traced s _ h _ w (take_plain m b y ys bytes buffer o e) = traced_by _ _ (taken s h w m b y ys bytes buffer o)
  keep_traced s _ h _ w (take_wake m b y ys bytes buffer t x o e _ _) =
      traced_by _ _ (put_due (taken s h w m b y ys bytes buffer o) t _ (sent_queued _ m b.size t y (taken_queue s h w m b y ys bytes buffer o).0 e))
  keep_traced s _ h _ w (queue_plain m b bytes at _ a) =
      let r = grown s h (with_accepted m s.next bytes None h) (_ ∷ []) [] refl refl w in
      traced_by _ _ (queues_next _ m s.next bytes None (first_of _ h.accepted) r b b.messages a.fits (in_queue r m b b.messages at.here refl))
  keep_traced s _ h _ w (queue_over m b y ys old bytes o _ _ a) =
      let r = grown s h (with_accepted m s.next bytes None (with_displaced y.number h)) (_ ∷ []) [] refl refl w in
      let q = (in_queue r m b (y ∷ ys) o.at.here o.first).1 in
      traced_by _ _ (queues_next _ m s.next bytes None (first_of _ h.accepted) (put_queue (put_held r y.number None tt) m (Some (with_messages b ys)) q) b ys a.fits q)
  keep_traced s _ h _ w (queue_wait x m b bytes r at _ a) =
      let g = grown s h (with_accepted m s.next bytes (Some (running s)) h) (_ ∷ []) [] refl refl w in
      traced_by _ _ (put_due (queues_next _ m s.next bytes (Some (running s)) (first_of _ h.accepted) g b b.messages a.fits (in_queue g m b b.messages at.here refl))
      (running s) (Some (acting (Sending m s.next) x)) (unowed _ (running s) x.due r.free))
  keep_traced s _ h _ w (hand sender m b t x rs bytes at _ _ _ _ a) =
      let r = grown s h (with_told (of_option sender (λ u. notice u OK s.next)) (with_handed_over m s.next t (with_accepted m s.next bytes sender h))) (_ ∷ []) (_ ∷ []) refl refl w in
      let new = first_of (new_acceptance m s.next bytes sender) h.accepted in
      let given = given_over _ m s.next t _ new refl refl (first_of _ h.handed_over) in
      let queue = in_queue r m b b.messages at.here refl in
      traced_by _ _ (put_told (put_due (put_queue (put_held r s.next (Some bytes) (stored_new _ m s.next bytes sender new)) m (Some (with_receivers b rs)) queue) t _ given)
      (of_option sender (λ u. notice u OK s.next)) (noticed_new _ m s.next bytes sender new))
  keep_traced s _ h _ w (waken t x until st _ _) = traced_by _ _ (put_due (grown s h h [] [] refl refl w) t _ tt)
  keep_traced s _ h _ w (give_up t x m b _ _ at) =
      let r = grown s h h [] [] refl refl w in
      traced_by _ _ (put_due (put_queue r m (Some (leave_receivers t b)) (in_queue r m b b.messages at.here refl)) t _ tt)
  keep_traced s _ h _ w (withdraw t x m b n e q at) =
      let r = grown s h (with_withdrawn n h) [] [] refl refl w in
      let sent = longer_sent h (with_withdrawn n h) (longer_by h (with_withdrawn n h) [] [] refl refl) t n (sent_waiting s h w t x m b n e q at) in
      traced_by _ _ (put_due (put_queue (put_held r n None tt) m (Some (unqueue n b)) (all_unqueued _ n b.messages (in_queue r m b b.messages at.here refl))) t _ sent)

pub first_traced : (n : ℕ) → Traced (initial n) no_history
first_traced n = traced_by _ _ (record {
  queues = λ _. tt;
  dues = λ t. changed_both (λ u o. Owed no_history u (due_of o)) (λ _. None) 0 (Some idle_task) tt t (λ _. tt);
  store = λ _. tt;
  notices = tt;
  deliveries = tt;
})

pub bytes_hold : (kind : Kind) (first : ℕ) (s : State) (h : History) → Sound kind first s h → Bytes s h
bytes_hold kind first s h w = record { as_sent = w.traced.of_brought; once = w.balanced.fetched }
