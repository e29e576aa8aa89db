-- What a line can do to a state and to what has happened: each accepted call is one turn, and a tick is one for each task.
use Rattle.std.proofs.Common.{◌≡◌, ℕ, ◌+◌, ◌-◌, ◌<◌, ◌≤◌, List, [], ◌∷◌, ◌++◌, length, drop, Some, None, Option}
use Rattle.answers.specs.declared.answer.Status.{Status}
use Rattle.answers.specs.declared.answer.Status.TheVariants.{Ok as OK, DeadlineReached as DEADLINE_REACHED}
use Rattle.art.specs.declared.task.Activity.{Activity}
use Rattle.art.specs.declared.task.Activity.TheVariants.{Ready, Receiving, Sending, Asleep}
use Rattle.art.specs.declared.task.Due.TheVariants.{Sent, Given, Plain}
use Rattle.art.specs.declared.task.Message.{Message}
use Rattle.art.specs.declared.task.Task.{Task}
use Rattle.art.specs.declared.task.Urgency.{Urgency}
use Rattle.answers.specs.Counts.{count_handed_over, count_withdrawn}
use Rattle.art.specs.State.{Kind, Mailbox, State, top, last_task, running, with_counter, with_task, with_mailbox, with_ready, with_counts}
use Rattle.art.specs.Verbs.{accept, enter, join_receivers, leave_receivers, queue, release, removed, rouse, unqueue, with_messages, with_receivers}
use Rattle.answers.specs.Counts.{count_displaced}
use Rattle.law.specs.History.{Life, Created, Ended, Notice, History, notice, of_option}

-- Tasks that change

-- the task does something else; its answer due is collected; it has another deadline
abbrev pub acting : Activity → Task → Task
acting a x = record { urgency = x.urgency; activity = a; due = x.due }

abbrev pub answered : Task → Task
answered x = record { urgency = x.urgency; activity = x.activity; due = None }

abbrev pub hurried : ℕ → Task → Task
hurried d x = record { urgency = record { deadline = d; level = x.urgency.level }; activity = x.activity; due = x.due }

-- a task as create_task makes it
abbrev pub created : Urgency → Task
created u = record { urgency = u; activity = Ready; due = None }

-- the running task, x, leaves the ready list to wait or to sleep
abbrev pub rested : State → Task → Activity → State
rested s x a = with_ready (with_task s (running s) (Some (acting a x))) (removed (running s) s.ready)

-- the running task, x, has collected its answer
abbrev pub settled : State → Task → State
settled s x = with_task s (running s) (Some (answered x))

-- What a turn adds to the history

abbrev pub with_life : Life → History → History
with_life l h = record { lives = l ∷ h.lives; accepted = h.accepted; handed_over = h.handed_over; withdrawn = h.withdrawn; displaced = h.displaced; told = h.told; brought = h.brought }

abbrev pub with_accepted : ℕ → ℕ → List ℕ → Option ℕ → History → History
with_accepted m n bytes sender h =
    record { lives = h.lives; accepted = record { mailbox = m; number = n; bytes = bytes; sender = sender } ∷ h.accepted; handed_over = h.handed_over; withdrawn = h.withdrawn; displaced = h.displaced; told = h.told; brought = h.brought }

abbrev pub with_handed_over : ℕ → ℕ → ℕ → History → History
with_handed_over m n t h =
    record { lives = h.lives; accepted = h.accepted; handed_over = record { mailbox = m; number = n; receiver = t } ∷ h.handed_over; withdrawn = h.withdrawn; displaced = h.displaced; told = h.told; brought = h.brought }

abbrev pub with_withdrawn : ℕ → History → History
with_withdrawn n h = record { lives = h.lives; accepted = h.accepted; handed_over = h.handed_over; withdrawn = n ∷ h.withdrawn; displaced = h.displaced; told = h.told; brought = h.brought }

abbrev pub with_displaced : ℕ → History → History
with_displaced n h = record { lives = h.lives; accepted = h.accepted; handed_over = h.handed_over; withdrawn = h.withdrawn; displaced = n ∷ h.displaced; told = h.told; brought = h.brought }

abbrev pub with_told : List Notice → History → History
with_told ns h = record { lives = h.lives; accepted = h.accepted; handed_over = h.handed_over; withdrawn = h.withdrawn; displaced = h.displaced; told = ns ++ h.told; brought = h.brought }

-- bytes come to task t under the number n, in the buffer that it lent
abbrev pub with_brought : ℕ → ℕ → List ℕ → List ℕ → History → History
with_brought t n bytes buffer h =
    record {
      lives = h.lives;
      accepted = h.accepted;
      handed_over = h.handed_over;
      withdrawn = h.withdrawn;
      displaced = h.displaced;
      told = h.told;
      brought = record { task = t; number = n; length = length bytes; lent = buffer; left = bytes ++ drop (length bytes) buffer } ∷ h.brought;
    }

-- What is known where a turn is made

-- the running task is x, which is ready, has no answer due and is not task 0
pub record Runs (s : State) (x : Task) : Type 0 where
  pub here : s.tasks (running s) ≡ Some x
  pub ready : x.activity ≡ Ready
  pub free : x.due ≡ None
  pub busy : running s ≡ 0 → ⊥

-- mailbox m is in use, and is b
pub record At (s : State) (m : ℕ) (b : Mailbox) : Type 0 where
  pub small : m < 32
  pub here : s.mailboxes m ≡ Some b

-- the bytes are as long as the mailbox asks for, and the store takes them under the next number, with the units used as given
pub record Accepts (kind : Kind) (s : State) (b : Mailbox) (bytes : List ℕ) (used : ℕ) : Type 0 where
  pub unspent : s.next ≤ top
  pub fits : length bytes ≡ b.size
  pub free : s.held s.next ≡ None
  pub room : used + kind.cost (length bytes) ≤ kind.capacity

-- the message y is the oldest of mailbox m, and its bytes are held
pub record Oldest (s : State) (m : ℕ) (b : Mailbox) (y : Message) (ys : List Message) (bytes : List ℕ) : Type 0 where
  pub at : At s m b
  pub first : b.messages ≡ y ∷ ys
  pub held : s.held y.number ≡ Some bytes

-- a message with the next number for the end of a queue
abbrev pub next_message : State → Option ℕ → Message
next_message s sender = record { number = s.next; sender = sender }

-- the states that some turns leave, but for a waking: the oldest message taken, or displaced; the next message queued, or handed on
abbrev pub after_take : Kind → State → ℕ → Mailbox → Message → List Message → State
after_take kind s m b y ys = with_counts (with_mailbox (release kind s y.number) m (Some (with_messages b ys))) (count_handed_over s.counts)

abbrev pub after_displacing : Kind → State → ℕ → Mailbox → Message → List Message → State
after_displacing kind s m b y ys = with_counts (with_mailbox (release kind s y.number) m (Some (with_messages b ys))) (count_displaced s.counts)

abbrev pub after_queue : Kind → State → ℕ → Mailbox → List ℕ → Option ℕ → State
after_queue kind s m b bytes sender = with_mailbox (accept kind s bytes) m (Some (queue (next_message s sender) b))

abbrev pub after_hand : Kind → State → ℕ → Mailbox → List ℕ → List ℕ → State
after_hand kind s m b rs bytes = with_counts (with_mailbox (accept kind s bytes) m (Some (with_receivers b rs))) (count_handed_over (accept kind s bytes).counts)

abbrev pub after_withdraw : Kind → State → ℕ → Mailbox → ℕ → State
after_withdraw kind s m b n = with_counts (with_mailbox (release kind s n) m (Some (unqueue n b))) (count_withdrawn s.counts)

pub data Turn (kind : Kind) (s : State) (h : History) : State → History → Type 0 where
  stay : Turn kind s h s h
  clock : (n : ℕ) → Turn kind s h (with_counter s n) h
  -- tasks
  create : (t : ℕ) (u : Urgency) → (t ≡ 0 → ⊥) → t ≤ last_task → s.tasks t ≡ None → Turn kind s h (enter kind (with_task s t (Some (created u))) t) (with_life (Created t) h)
  finish : (x : Task) → Runs s x → Turn kind s h (with_ready (with_task s (running s) None) (removed (running s) s.ready)) (with_life (Ended (running s)) h)
  sleep : (x : Task) (until : ℕ) → Runs s x → Turn kind s h (rested s x (Asleep until)) h
  hurry : (x : Task) (d : ℕ) → Runs s x → Turn kind s h (enter kind (with_ready (with_task s (running s) (Some (hurried d x))) (removed (running s) s.ready)) (running s)) h
  -- mailboxes
  open_box : (m c z : ℕ) → m < 32 → s.mailboxes m ≡ None → 1 ≤ c → 1 ≤ z → z ≤ 128 → Turn kind s h (with_mailbox s m (Some (record { capacity = c; size = z; messages = []; receivers = [] }))) h
  close_box : (m : ℕ) (b : Mailbox) → At s m b → b.messages ≡ [] → b.receivers ≡ [] → Turn kind s h (with_mailbox s m None) h
  -- answers due
  tell : (x : Task) (st : Status) (n : ℕ) → s.tasks (running s) ≡ Some x → x.due ≡ Some (Sent st n) → Turn kind s h (settled s x) (with_told (notice (running s) st n) h)
  tell_plain : (x : Task) (st : Status) → s.tasks (running s) ≡ Some x → x.due ≡ Some (Plain st) → Turn kind s h (settled s x) h
  fetch : (x : Task) (n : ℕ) (bytes buffer : List ℕ) → s.tasks (running s) ≡ Some x → x.due ≡ Some (Given n) → s.held n ≡ Some bytes
      → Turn kind s h (settled (release kind s n) x) (with_brought (running s) n bytes buffer h)
  -- receives
  await : (x : Task) (m : ℕ) (b : Mailbox) → Runs s x → At s m b → b.messages ≡ [] → Turn kind s h (rested (with_mailbox s m (Some (join_receivers (running s) b))) x (Receiving m)) h
  take_plain : (m : ℕ) (b : Mailbox) (y : Message) (ys : List Message) (bytes buffer : List ℕ) → Oldest s m b y ys bytes → y.sender ≡ None
      → Turn kind s h (after_take kind s m b y ys) (with_brought (running s) y.number bytes buffer (with_handed_over m y.number (running s) h))
  take_wake : (m : ℕ) (b : Mailbox) (y : Message) (ys : List Message) (bytes buffer : List ℕ) (t : ℕ) (x : Task) → Oldest s m b y ys bytes → y.sender ≡ Some t → s.tasks t ≡ Some x → x.activity ≡ Sending m y.number
      → Turn kind s h (rouse kind (after_take kind s m b y ys) t x (Some (Sent OK y.number))) (with_brought (running s) y.number bytes buffer (with_handed_over m y.number (running s) h))
  -- sends
  queue_plain : (m : ℕ) (b : Mailbox) (bytes : List ℕ) → At s m b → b.receivers ≡ [] → Accepts kind s b bytes s.used
      → Turn kind s h (after_queue kind s m b bytes None) (with_accepted m s.next bytes None h)
  queue_over : (m : ℕ) (b : Mailbox) (y : Message) (ys : List Message) (old bytes : List ℕ) → Oldest s m b y ys old → y.sender ≡ None → b.receivers ≡ [] → Accepts kind s b bytes (s.used - kind.cost (length old))
      → Turn kind s h (after_queue kind (after_displacing kind s m b y ys) m (with_messages b ys) bytes None) (with_accepted m s.next bytes None (with_displaced y.number h))
  queue_wait : (x : Task) (m : ℕ) (b : Mailbox) (bytes : List ℕ) → Runs s x → At s m b → b.receivers ≡ [] → Accepts kind s b bytes s.used
      → Turn kind s h (rested (after_queue kind s m b bytes (Some (running s))) x (Sending m s.next)) (with_accepted m s.next bytes (Some (running s)) h)
  hand : (sender : Option ℕ) (m : ℕ) (b : Mailbox) (t : ℕ) (x : Task) (rs bytes : List ℕ) → At s m b → b.messages ≡ [] → b.receivers ≡ t ∷ rs → s.tasks t ≡ Some x → x.activity ≡ Receiving m → Accepts kind s b bytes s.used
      → Turn kind s h (rouse kind (after_hand kind s m b rs bytes) t x (Some (Given s.next)))
      (with_told (of_option sender (λ u. notice u OK s.next)) (with_handed_over m s.next t (with_accepted m s.next bytes sender h)))
  -- a tick at task t
  waken : (t : ℕ) (x : Task) (until : ℕ) (st : Status) → s.tasks t ≡ Some x → x.activity ≡ Asleep until → Turn kind s h (rouse kind s t x (Some (Plain st))) h
  give_up : (t : ℕ) (x : Task) (m : ℕ) (b : Mailbox) → s.tasks t ≡ Some x → x.activity ≡ Receiving m → At s m b
      → Turn kind s h (rouse kind (with_mailbox s m (Some (leave_receivers t b))) t x (Some (Plain DEADLINE_REACHED))) h
  withdraw : (t : ℕ) (x : Task) (m : ℕ) (b : Mailbox) (n : ℕ) → s.tasks t ≡ Some x → x.activity ≡ Sending m n → At s m b
      → Turn kind s h (rouse kind (after_withdraw kind s m b n) t x (Some (Sent DEADLINE_REACHED n))) (with_withdrawn n h)
