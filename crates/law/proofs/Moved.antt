-- What a turn moves: messages through queues, gifts and the store, the next number and the five counts.
use Rattle.std.proofs.Common.{◌≡◌, ℕ, ◌+◌, ◌-◌, ◌<◌, ◌≤◌, cond, eqb, List, [], ◌∷◌, ◌++◌, map, length, Some, None, Option, sym, refl, ap, ◌∙◌, ⊎_elim, arith}
use Rattle.std.proofs.lemmas.Bool.{cond_both, eqb-true, eq-eqb, cases_lt, cases_eq}
use Rattle.store.specs.Meaning.{Contents, with, without, units_in}
use Rattle.answers.specs.declared.answer.Status.TheVariants.{DeadlineReached as DEADLINE_REACHED}
use Rattle.art.specs.declared.task.Activity.TheVariants.{Ready, Sending}
use Rattle.art.specs.declared.task.Due.{Due}
use Rattle.art.specs.declared.task.Due.TheVariants.{Sent, Given}
use Rattle.art.specs.declared.task.Message.{Message}
use Rattle.art.specs.declared.task.Task.{Task}
use Rattle.answers.specs.Counts.{count_accepted}
use Rattle.art.specs.State.{Kind, Mailbox, State, top, running, changed}
use Rattle.art.specs.Verbs.{queue, unqueue, unqueued, with_messages, with_receivers}
use Rattle.law.specs.History.{Life, Notice, History, of_option}
use Rattle.law.specs.Law.{sum_of, count, queued, given, accepted, handed_over, brought, holds, given_by}
use Rattle.law.proofs.Counting.{count_self, count_other, count_append, sum_append, changed_same, changed_both, mailbox_changed, task_changed}
use Rattle.law.proofs.Sound.{Tasks, Mailboxes, Counted, Sound, readies, sends, listed, sent_by, number_if, messages_in, numbers, gift, all_queued, all_given}
use Rattle.law.proofs.Turn.{Turn, stay, clock, create, finish, sleep, hurry, open_box, close_box, tell, tell_plain, fetch, await, take_plain, take_wake, queue_plain, queue_over, queue_wait, hand, waken, give_up, withdraw}
use Rattle.law.proofs.Turn.{At, Accepts, Oldest, next_message, created, answered, with_accepted, with_handed_over, with_brought, with_displaced, after_take, after_displacing}

-- the sum of f over the messages that are queued no more, and over those that were held and are held no more
abbrev pub parted : (ℕ → ℕ) → History → ℕ
parted f h = sum_of f (handed_over h) + (sum_of f h.withdrawn + sum_of f h.displaced)

abbrev pub gone : (ℕ → ℕ) → History → ℕ
gone f h = sum_of f (brought h) + (sum_of f h.withdrawn + sum_of f h.displaced)

-- the units of what stands under a number
abbrev pub weight : Kind → Contents → ℕ → ℕ
weight kind held k = units_in kind.cost (held k)

-- 1 at the number k alone
abbrev pub one : ℕ → ℕ → ℕ
one k x = cond (eqb k x) 1 0

-- the store as messages come and leave; `all` has what it held before or holds after
pub record Stocked (kind : Kind) (held : Contents) (used : ℕ) (h : History) (held' : Contents) (used' : ℕ) (h' : History) : Type 0 where
  pub all : Contents
  pub before : (k : ℕ) → 1 ≤ holds (held k) → all k ≡ held k
  pub after : (k : ℕ) → 1 ≤ holds (held' k) → all k ≡ held' k
  pub numbers : (k : ℕ) → (holds (held' k) + gone (one k) h') + count k (accepted h) ≡ (holds (held k) + gone (one k) h) + count k (accepted h')
  pub units : (used' + gone (weight kind all) h') + sum_of (weight kind all) (accepted h) ≡ (used + gone (weight kind all) h) + sum_of (weight kind all) (accepted h')
  pub room : used' ≤ kind.capacity

-- no number is used up, or the next one is
pub data Numbered (next : ℕ) (old : List ℕ) : ℕ → List ℕ → Type 0 where
  none_used : Numbered next old next old
  next_used : next ≤ top → Numbered next old (next + 1) (next ∷ old)

-- as many are accepted as are queued or parted with
abbrev pub Total : State → History → Type 0
Total s h = length h.accepted ≡ length (queued s) + (length h.handed_over + (length h.withdrawn + length h.displaced))

-- the five counts stay right
abbrev pub StillCounted : (s s' : State) (h h' : History) → Type 0
StillCounted s s' h h' = Counted s h → Total s h → Total s' h' → length h'.accepted ≤ top + 1 → Counted s' h'

-- by the sum of any f: what is accepted comes to be queued or parted with, and what is handed over to be given or brought
pub record Moved (kind : Kind) (s s' : State) (h h' : History) : Type 0 where
  pub queues : (f : ℕ → ℕ) → (sum_of f (queued s') + parted f h') + sum_of f (accepted h) ≡ (sum_of f (queued s) + parted f h) + sum_of f (accepted h')
  pub gifts : (f : ℕ → ℕ) → (sum_of f (given s') + sum_of f (brought h')) + sum_of f (handed_over h) ≡ (sum_of f (given s) + sum_of f (brought h)) + sum_of f (handed_over h')
  pub store : Stocked kind s.held s.used h s'.held s'.used h'
  pub numbers : Numbered s.next (accepted h) s'.next (accepted h')
  pub counts : StillCounted s s' h h'

-- one move, or two in a row
pub data Moves (kind : Kind) (s s' : State) (h h' : History) : Type 0 where
  single : Moved kind s s' h h' → Moves kind s s' h h'
  double : (between : State) (meanwhile : History) → Moved kind s between h meanwhile → Moved kind between s' meanwhile h' → Moves kind s s' h h'

-- The store

module _ (kind : Kind) (held : Contents) (used : ℕ) (h h' : History) where
  -- the message n leaves
  stock_less : (n : ℕ) → used ≤ kind.capacity → holds (held n) ≡ 1 → weight kind held n ≤ used
      → ((f : ℕ → ℕ) → gone f h' + sum_of f (accepted h) ≡ (f n + gone f h) + sum_of f (accepted h'))
      → Stocked kind held used h (without held n) (used - weight kind held n) h'
  stock_less n room here part e = record {
    all = held;
    before = λ _ _. refl;
    after = λ k. changed_both (λ i o. 1 ≤ holds o → held i ≡ o) held n None (λ l. absurd (omega arith)) k (λ _ _. refl);
    numbers = λ k. changed_both (λ i o. (holds o + gone (one i) h') + count i (accepted h) ≡ (holds (held i) + gone (one i) h) + count i (accepted h')) held n None
        (omega (arith, e (one n), count_self n [])) k (λ ne. omega (arith, e (one k), count_other k n [] ne));
    units = omega (arith, e (weight kind held));
    room = omega arith;
  }

  -- the bytes of the message n come
  stock_more : (n : ℕ) (bytes : List ℕ) → used + kind.cost (length bytes) ≤ kind.capacity → held n ≡ None
      → ((f : ℕ → ℕ) → gone f h' + (f n + sum_of f (accepted h)) ≡ gone f h + sum_of f (accepted h'))
      → Stocked kind held used h (with held n bytes) (used + kind.cost (length bytes)) h'
  stock_more n bytes room free e = record {
    all = with held n bytes;
    before = λ k. changed_both (λ i o. 1 ≤ holds (held i) → o ≡ held i) held n (Some bytes) (λ l. absurd (omega (arith, ap holds free))) k (λ _ _. refl);
    after = λ _ _. refl;
    numbers = λ k. changed_both (λ i o. (holds o + gone (one i) h') + count i (accepted h) ≡ (holds (held i) + gone (one i) h) + count i (accepted h')) held n (Some bytes)
        (omega (arith, e (one n), count_self n [], ap holds free)) k (λ ne. omega (arith, e (one k), count_other k n [] ne));
    units = omega (arith, e (weight kind (with held n bytes)), ap (units_in kind.cost) (changed_same held n (Some bytes)));
    room = room;
  }

-- what stands in a list is a part of the sum
sum_part : (f : ℕ → ℕ) (k : ℕ) (xs : List ℕ) → 1 ≤ count k xs → f k ≤ sum_of f xs
sum_part f k [] l = absurd (omega arith)
sum_part f k (x ∷ xs) l = ⊎_elim (λ e. omega (arith, ap f e)) (λ ne. omega (arith, count_other k x xs ne, sum_part f k xs (omega (arith, count_other k x xs ne)))) (cases_eq k x)

-- Queues

abbrev by_number : List Message → List ℕ
by_number xs = map (λ x. x.number) xs

-- the numbers of a queue with one more message at the end, and without the message n
sum_last : (f : ℕ → ℕ) (xs : List Message) (x : Message) → sum_of f (by_number (xs ++ (x ∷ []))) ≡ sum_of f (by_number xs) + f x.number
sum_last f [] x = omega arith
sum_last f (y ∷ xs) x = omega (arith, sum_last f xs x)

sum_unqueued : (f : ℕ → ℕ) (n : ℕ) (xs : List Message) → 1 ≤ count n (by_number xs) → sum_of f (by_number (unqueued n xs)) + f n ≡ sum_of f (by_number xs)
sum_unqueued f n [] l = absurd (omega arith)
sum_unqueued f n (x ∷ xs) l = cond_both (eqb n x.number) xs (x ∷ unqueued n xs) (λ ys. sum_of f (by_number ys) + f n ≡ f x.number + sum_of f (by_number xs))
    (λ e. omega (arith, ap f (eqb-true n x.number e))) (λ e. omega (arith, sum_unqueued f n xs (omega (arith, ap (λ b. cond {A = ℕ} b 1 0) e))))

-- what task t waits with stands in the queue
sent_queued : (n t : ℕ) (xs : List Message) → count n (sent_by t xs) ≤ count n (by_number xs)
sent_queued n t [] = omega arith
sent_queued n t (x ∷ xs) = omega (arith, count_append n (number_if t x.number x.sender) (sent_by t xs), sent_queued n t xs, go x.sender)
  where
    go : (o : Option ℕ) → count n (number_if t x.number o) ≤ count n (x.number ∷ [])
    go None = omega arith
    go (Some u) = cond_both (eqb t u) (x.number ∷ []) [] (λ l. count n l ≤ count n (x.number ∷ [])) (λ _. omega arith) (λ _. omega arith)

-- a mailbox changes
box_sum : {s : State} (m : ℕ) (b : Mailbox) (v : Option Mailbox) → At s m b
    → (f : ℕ → ℕ) → sum_of f (all_queued (changed s.mailboxes m v)) + sum_of f (numbers b) ≡ sum_of f (queued s) + sum_of f (of_option v numbers)
box_sum {s} m b v at f = omega (arith, mailbox_changed f numbers s.mailboxes m v at.small, ap (λ o. sum_of f (of_option o numbers)) at.here)

-- the same by any sum
abbrev Alike : List ℕ → List ℕ → Type 0
Alike xs ys = (f : ℕ → ℕ) → sum_of f xs ≡ sum_of f ys

-- the next message is accepted, for the queue of mailbox m
joins : (kind : Kind) (s : State) (h : History) (m : ℕ) (b : Mailbox) (bytes : List ℕ) (sender : Option ℕ) {tasks : Tasks} {ready : List ℕ}
    → At s m b → Accepts kind s b bytes s.used → Alike (all_given tasks) (given s)
    → Moved kind s (record {
      counter = s.counter;
      next = s.next + 1;
      tasks = tasks;
      mailboxes = changed s.mailboxes m (Some (queue (next_message s sender) b));
      ready = ready;
      held = with s.held s.next bytes;
      used = s.used + kind.cost (length bytes);
      counts = count_accepted s.counts;
    }) h (with_accepted m s.next bytes sender h)
joins kind s h m b bytes sender at ok g = record {
  queues = λ f. omega (arith, box_sum m b (Some (queue (next_message s sender) b)) at f, sum_last f b.messages (next_message s sender));
  gifts = λ f. omega (arith, g f);
  store = stock_more kind s.held s.used h _ s.next bytes ok.room ok.free (λ _. refl);
  numbers = next_used ok.unspent;
  counts = λ c t t' few. omega arith;
}

-- Turns at a sound state

module _ {kind : Kind} {first : ℕ} {s : State} {h : History} (w : Sound kind first s h) where
  -- a mailbox keeps its messages
  same_box : (m : ℕ) (b : Mailbox) (v : Option Mailbox) → At s m b → numbers b ≡ of_option v numbers → Alike (all_queued (changed s.mailboxes m v)) (queued s)
  same_box m b v at e f = omega (arith, box_sum m b v at f, ap (sum_of f) e)

  -- a task changes; it keeps its gift; a task that waits has none, and is woken with none
  gift_sum : (t : ℕ) (x : Task) (v : Option Task) → s.tasks t ≡ Some x
      → (f : ℕ → ℕ) → sum_of f (all_given (changed s.tasks t v)) + sum_of f (gift x) ≡ sum_of f (given s) + sum_of f (of_option v gift)
  gift_sum t x v here f = omega (arith, task_changed f gift s.tasks t v small, ap (λ o. sum_of f (of_option o gift)) here)
    where
      small : t < 64
      small = ⊎_elim (λ l. l) (λ l. let none = w.tasked.range t l in let z : ◌≡◌ {A = ℕ} 0 1 = cc in absurd (omega arith)) (cases_lt t 64)

  same_gift : (t : ℕ) (x : Task) (v : Option Task) → s.tasks t ≡ Some x → gift x ≡ of_option v gift → Alike (all_given (changed s.tasks t v)) (given s)
  same_gift t x v here e f = omega (arith, gift_sum t x v here f, ap (sum_of f) e)

  no_gift : (t : ℕ) (x : Task) → s.tasks t ≡ Some x → readies x.activity ≡ 0 → gift x ≡ []
  no_gift t x here waits = ap (λ d. of_option d given_by) (w.tasked.calm t x here waits)

  woken : (t : ℕ) (x : Task) (d : Due) → s.tasks t ≡ Some x → readies x.activity ≡ 0 → given_by d ≡ []
      → Alike (all_given (changed s.tasks t (Some (record { urgency = x.urgency; activity = Ready; due = Some d })))) (given s)
  woken t x d here waits e = same_gift t x _ here (no_gift t x here waits ∙ sym e)

  -- nothing moves
  still : {counter : ℕ} {tasks : Tasks} {boxes : Mailboxes} {ready : List ℕ} {lives : List Life} {told : List Notice}
      → Alike (all_queued boxes) (queued s) → Alike (all_given tasks) (given s)
      → Moves kind s (record { counter = counter; next = s.next; tasks = tasks; mailboxes = boxes; ready = ready; held = s.held; used = s.used; counts = s.counts }) h
      (record { lives = lives; accepted = h.accepted; handed_over = h.handed_over; withdrawn = h.withdrawn; displaced = h.displaced; told = told; brought = h.brought })
  still q g = single (record {
    queues = λ f. omega (arith, q f);
    gifts = λ f. omega (arith, g f);
    store = record { all = s.held; before = λ _ _. refl; after = λ _ _. refl; numbers = λ _. refl; units = refl; room = w.balanced.room };
    numbers = none_used;
    counts = λ c t t' few. omega arith;
  })

  -- the message n, which is held, leaves the store
  released : (n : ℕ) (h' : History) → 1 ≤ holds (s.held n) → ((f : ℕ → ℕ) → gone f h' + sum_of f (accepted h) ≡ (f n + gone f h) + sum_of f (accepted h'))
      → Stocked kind s.held s.used h (without s.held n) (s.used - weight kind s.held n) h'
  released n h' here e = stock_less kind s.held s.used h h' n w.balanced.room
      (omega (arith, w.balanced.stored n, w.balanced.parted n, w.balanced.once n, w.balanced.fetched n))
      (omega (
        arith,
        w.balanced.units,
        sum_append (weight kind s.held) (queued s) (given s),
        sum_part (weight kind s.held) n (queued s ++ given s) (omega (arith, w.balanced.stored n, count_append n (queued s) (given s))),
      )) e

  -- the oldest message leaves its mailbox; it is taken
  first_out : (m : ℕ) (b : Mailbox) (y : Message) (ys : List Message) (bytes : List ℕ) → Oldest s m b y ys bytes
      → (f : ℕ → ℕ) → sum_of f (all_queued (changed s.mailboxes m (Some (with_messages b ys)))) + f y.number ≡ sum_of f (queued s)
  first_out m b y ys bytes o f = omega (arith, box_sum m b (Some (with_messages b ys)) o.at f, ap (λ xs. sum_of f (by_number xs)) o.first)

  taken : (m : ℕ) (b : Mailbox) (y : Message) (ys : List Message) (bytes buffer : List ℕ) {tasks : Tasks} {ready : List ℕ}
      → Oldest s m b y ys bytes → Alike (all_given tasks) (given s)
      → let after : State = after_take kind s m b y ys in
      Moves kind s (record { counter = s.counter; next = s.next; tasks = tasks; mailboxes = after.mailboxes; ready = ready; held = after.held; used = after.used; counts = after.counts }) h
      (with_brought (running s) y.number bytes buffer (with_handed_over m y.number (running s) h))
  taken m b y ys bytes buffer o g = single (record {
    queues = λ f. omega (arith, first_out m b y ys bytes o f);
    gifts = λ f. omega (arith, g f);
    store = released y.number _ (omega (arith, ap holds o.held)) (λ f. omega arith);
    numbers = none_used;
    counts = λ c t t' few. omega arith;
  })

  -- the message with which task t waits at mailbox m stands in its queue
  waits_in : (t : ℕ) (x : Task) (m : ℕ) (b : Mailbox) (n : ℕ) → s.tasks t ≡ Some x → x.activity ≡ Sending m n → At s m b → 1 ≤ count n (numbers b)
  waits_in t x m b n here e at = omega (
    arith,
    count_self n [],
    sent_queued n t b.messages,
    ap (count n) (ap (λ o. sent_by t (messages_in o)) (sym at.here)
        ∙ (w.placed t).in_senders m ∙ ap (listed (sends m)) here ∙ ap (sends m) e ∙ ap (λ c. cond c (n ∷ []) []) (eq-eqb m m refl)),
  )

pub moves : (kind : Kind) (first : ℕ) (s s' : State) (h h' : History) → Sound kind first s h → Turn kind s h s' h' → Moves kind s s' h h'
moves kind first s _ h _ w stay = still w (λ _. refl) (λ _. refl)
moves kind first s _ h _ w (clock n) = still w (λ _. refl) (λ _. refl)
moves kind first s _ h _ w (create t u _ small e) =
    still w (λ _. refl) (λ f. omega (arith, task_changed f gift s.tasks t (Some (created u)) (omega arith), ap (λ o. sum_of f (of_option o gift)) e))
moves kind first s _ h _ w (finish x r) = still w (λ _. refl) (same_gift w (running s) x _ r.here (ap (λ d. of_option d given_by) r.free))
moves kind first s _ h _ w (sleep x until r) = still w (λ _. refl) (same_gift w (running s) x _ r.here refl)
moves kind first s _ h _ w (hurry x d r) = still w (λ _. refl) (same_gift w (running s) x _ r.here refl)
moves kind first s _ h _ w (open_box m c z small e _ _ _) =
    still w (λ f. omega (
      arith,
      mailbox_changed f numbers s.mailboxes m (Some (record { capacity = c; size = z; messages = []; receivers = [] })) small,
      ap (λ o. sum_of f (of_option o numbers)) e,
    )) (λ _. refl)
moves kind first s _ h _ w (close_box m b at e _) = still w (same_box w m b None at (ap by_number e)) (λ _. refl)
moves kind first s _ h _ w (tell x st n here e) = still w (λ _. refl) (same_gift w (running s) x _ here (ap (λ d. of_option d given_by) e))
moves kind first s _ h _ w (tell_plain x st here e) = still w (λ _. refl) (same_gift w (running s) x _ here (ap (λ d. of_option d given_by) e))
moves kind first s _ h _ w (fetch x n bytes buffer here e held) = single (record {
  queues = λ _. refl;
  gifts = λ f. omega (arith, gift_sum w (running s) x (Some (answered x)) here f, ap (λ d. sum_of f (of_option d given_by)) e);
  store = released w n _ (omega (arith, ap holds held)) (λ f. omega arith);
  numbers = none_used;
  counts = λ c t t' few. omega arith;
})
moves kind first s _ h _ w (await x m b r at _) = still w (same_box w m b _ at refl) (same_gift w (running s) x _ r.here refl)
moves kind first s _ h _ w (take_plain m b y ys bytes buffer o _) = taken w m b y ys bytes buffer o (λ _. refl)
moves kind first s _ h _ w (take_wake m b y ys bytes buffer t x o _ here e) = taken w m b y ys bytes buffer o (woken w t x _ here (ap readies e) refl)
moves kind first s _ h _ w (queue_plain m b bytes at _ ok) = single (joins kind s h m b bytes None at ok (λ _. refl))
moves kind first s _ h _ w (queue_over m b y ys old bytes o _ _ ok) = double (after_displacing kind s m b y ys) (with_displaced y.number h)
    (record {
      queues = λ f. omega (arith, first_out w m b y ys old o f);
      gifts = λ _. refl;
      store = released w y.number _ (omega (arith, ap holds o.held)) (λ f. omega arith);
      numbers = none_used;
      counts = λ c t t' few. omega arith;
    })
    (joins kind _ _ m (with_messages b ys) bytes None (record { small = o.at.small; here = changed_same s.mailboxes m (Some (with_messages b ys)) })
    (record {
      unspent = ok.unspent;
      fits = ok.fits;
      free = changed_both (λ _ v. v ≡ None) s.held y.number None refl s.next (λ _. ok.free);
      room = omega (arith, ok.room, ap (units_in kind.cost) o.held);
    }) (λ _. refl))
moves kind first s _ h _ w (queue_wait x m b bytes r at _ ok) = single (joins kind s h m b bytes (Some (running s)) at ok (same_gift w (running s) x _ r.here refl))
moves kind first s _ h _ w (hand sender m b t x rs bytes at _ _ here e ok) = single (record {
  queues = λ f. omega (arith, same_box w m b (Some (with_receivers b rs)) at refl f);
  gifts = λ f. omega (arith, gift_sum w t x (Some (record { urgency = x.urgency; activity = Ready; due = Some (Given s.next) })) here f, ap (sum_of f) (no_gift w t x here (ap readies e)));
  store = stock_more kind s.held s.used h _ s.next bytes ok.room ok.free (λ _. refl);
  numbers = next_used ok.unspent;
  counts = λ c t t' few. omega arith;
})
moves kind first s _ h _ w (waken t x _ st here e) = still w (λ _. refl) (woken w t x _ here (ap readies e) refl)
moves kind first s _ h _ w (give_up t x m b here e at) = still w (same_box w m b _ at refl) (woken w t x _ here (ap readies e) refl)
moves kind first s _ h _ w (withdraw t x m b n here e at) = let there = waits_in w t x m b n here e at in single (record {
  queues = λ f. omega (arith, box_sum m b (Some (unqueue n b)) at f, sum_unqueued f n b.messages there);
  gifts = λ f. omega (arith, woken w t x (Sent DEADLINE_REACHED n) here (ap readies e) refl f);
  store = released w n _ (omega (arith, w.balanced.stored n, box_sum m b None at (one n), there)) (λ f. omega arith);
  numbers = none_used;
  counts = λ c t t' few. omega arith;
})
