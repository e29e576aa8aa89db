-- The verbs that the calls are made of: what happens to tasks, mailboxes and the store.
use Rattle.std.specs.Prelude.{ℕ, ◌+◌, ◌-◌, Bool, true, false, cond, not, ◌||◌, List, [], ◌∷◌, ◌++◌, length, drop, is_some, Some, None, Option, ◌==◌, nat_le}
use Rattle.store.specs.Meaning.{with, without, bytes_in, units_in}
use Rattle.answers.specs.declared.answer.Counts.{Counts}
use Rattle.answers.specs.declared.answer.Status.TheVariants.{Ok as OK, DeadlineReached as DEADLINE_REACHED}
use Rattle.answers.specs.Counts.{count_accepted, count_withdrawn}
use Rattle.art.specs.declared.task.Activity.{Activity}
use Rattle.art.specs.declared.task.Activity.TheVariants.{Ready, Receiving, Sending, Asleep}
use Rattle.art.specs.declared.task.Due.{Due}
use Rattle.art.specs.declared.task.Due.TheVariants.{Sent, Given, Plain}
use Rattle.art.specs.declared.task.Event.{Event}
use Rattle.art.specs.declared.task.Event.TheVariants.{HandOver, Withdrawal, Tick}
use Rattle.art.specs.declared.task.Message.{Message}
use Rattle.art.specs.declared.task.Task.{Task}
use Rattle.art.specs.State.{Kind, Mailbox, State, running, with_next, with_task, with_mailbox, with_ready, with_store, with_counts}

-- Tasks

-- the answer that a task has yet to collect
abbrev pub due_of : Option Task → Option Due
due_of None = None
due_of (Some x) = x.due

-- its deadline
abbrev pub deadline_of : Option Task → ℕ
deadline_of None = 0
deadline_of (Some x) = x.urgency.deadline

-- the task does something else
abbrev pub doing : Activity → Option Task → Option Task
doing a None = None
doing a (Some x) = Some (record { urgency = x.urgency; activity = a; due = x.due })

-- no answer is due any more
abbrev pub settled : Option Task → Option Task
settled None = None
settled (Some x) = Some (record { urgency = x.urgency; activity = x.activity; due = None })

-- the task with another deadline
abbrev pub with_deadline : ℕ → Option Task → Option Task
with_deadline d None = None
with_deadline d (Some x) =
    Some (record { urgency = record { deadline = d; level = x.urgency.level }; activity = x.activity; due = x.due })

-- a sleeper at a tick: its deadline ends the sleep first, else its wake tick
abbrev pub wakes : ℕ → ℕ → ℕ → Option Due
wakes deadline until counter =
    cond (nat_le deadline counter) (Some (Plain DEADLINE_REACHED)) (cond (nat_le until counter) (Some (Plain OK)) None)

-- what a task has due once an event has made it ready, by what it does; nothing where the event does not concern it
abbrev pub due_after : ℕ → Activity → Event → Option Due
due_after d Ready e = None
due_after d (Receiving m) (HandOver n) = Some (Given n)
due_after d (Receiving m) Withdrawal = Some (Plain DEADLINE_REACHED)
due_after d (Receiving m) (Tick c) = None
due_after d (Sending m n) (HandOver k) = Some (Sent OK n)
due_after d (Sending m n) Withdrawal = Some (Sent DEADLINE_REACHED n)
due_after d (Sending m n) (Tick c) = None
due_after d (Asleep until) (HandOver n) = None
due_after d (Asleep until) Withdrawal = None
due_after d (Asleep until) (Tick c) = wakes d until c

-- a list without the first t
abbrev pub removed : ℕ → List ℕ → List ℕ
removed t [] = []
removed t (u ∷ us) = cond (t == u) us (u ∷ removed t us)

-- the running task leaves the ready list to wait or to sleep
abbrev pub block : State → Activity → State
block s a = with_ready (with_task s (running s) (doing a (s.tasks (running s)))) (removed (running s) s.ready)

-- the running task has collected its answer
abbrev pub settle : State → State
settle s = with_task s (running s) (settled (s.tasks (running s)))

-- whether the first of two tasks goes before the second
abbrev pub urgent : Kind → Option Task → Option Task → Bool
urgent kind None y = false
urgent kind (Some x) None = false
urgent kind (Some x) (Some y) = kind.before x.urgency y.urgency

-- t in front of the first task that it goes before, or else just in front of task 0
unfoldable pub entered : Kind → (ℕ → Option Task) → ℕ → List ℕ → List ℕ
entered kind tasks t [] = t ∷ []
entered kind tasks t (u ∷ us) = cond (u == 0 || urgent kind (tasks t) (tasks u)) (t ∷ u ∷ us) (u ∷ entered kind tasks t us)

-- a task enters the ready list
abbrev pub enter : Kind → State → ℕ → State
enter kind s t = with_ready s (entered kind s.tasks t s.ready)

-- a task that an event concerns becomes ready, with its answer due
abbrev pub rouse : Kind → State → ℕ → Task → Option Due → State
rouse kind s t x None = s
rouse kind s t x (Some d) = enter kind (with_task s t (Some (record { urgency = x.urgency; activity = Ready; due = Some d }))) t

-- the same where such a task lives
abbrev pub wake_task : Kind → State → ℕ → Event → Option Task → State
wake_task kind s t e None = s
wake_task kind s t e (Some x) = rouse kind s t x (due_after x.urgency.deadline x.activity e)

abbrev pub wake : Kind → State → ℕ → Event → State
wake kind s t e = wake_task kind s t e (s.tasks t)

-- Mailboxes

-- the mailbox of a number; one with no room stands for a number that is not in use
abbrev pub mailbox_in : Option Mailbox → Mailbox
mailbox_in None = record { capacity = 0; size = 0; messages = []; receivers = [] }
mailbox_in (Some b) = b

-- the same in a state
abbrev pub mailbox_at : State → ℕ → Mailbox
mailbox_at s m = mailbox_in (s.mailboxes m)

-- the mailbox with other messages, or with other receivers
abbrev pub with_messages : Mailbox → List Message → Mailbox
with_messages b xs = record { capacity = b.capacity; size = b.size; messages = xs; receivers = b.receivers }

abbrev pub with_receivers : Mailbox → List ℕ → Mailbox
with_receivers b ts = record { capacity = b.capacity; size = b.size; messages = b.messages; receivers = ts }

-- a change of a mailbox that is in use
abbrev pub edited : (Mailbox → Mailbox) → Option Mailbox → Option Mailbox
edited f None = None
edited f (Some b) = Some (f b)

-- the mailbox of a number, changed where it is in use
abbrev pub edit_mailbox : State → ℕ → (Mailbox → Mailbox) → State
edit_mailbox s m f = with_mailbox s m (edited f (s.mailboxes m))

-- the first of a list, and the others
abbrev pub oldest : {A : Type 0} → List A → Option A
oldest [] = None
oldest (x ∷ xs) = Some x

abbrev pub others : {A : Type 0} → List A → List A
others [] = []
others (x ∷ xs) = xs

-- a queue without the message n
abbrev pub unqueued : ℕ → List Message → List Message
unqueued n [] = []
unqueued n (x ∷ xs) = cond (n == x.number) xs (x ∷ unqueued n xs)

-- a message comes to the end of the queue; the oldest leaves it; the message n leaves it
abbrev pub queue : Message → Mailbox → Mailbox
queue x b = with_messages b (b.messages ++ (x ∷ []))

abbrev pub unqueue_oldest : Mailbox → Mailbox
unqueue_oldest b = with_messages b (others b.messages)

abbrev pub unqueue : ℕ → Mailbox → Mailbox
unqueue n b = with_messages b (unqueued n b.messages)

-- a receiver comes to the end of the receivers; the oldest leaves them; task t leaves them
abbrev pub join_receivers : ℕ → Mailbox → Mailbox
join_receivers t b = with_receivers b (b.receivers ++ (t ∷ []))

abbrev pub leave_oldest : Mailbox → Mailbox
leave_oldest b = with_receivers b (others b.receivers)

abbrev pub leave_receivers : ℕ → Mailbox → Mailbox
leave_receivers t b = with_receivers b (removed t b.receivers)

-- no element
abbrev pub is_empty : {A : Type 0} → List A → Bool
is_empty [] = true
is_empty (x ∷ xs) = false

-- as many as the mailbox has room for
abbrev pub fills : {A : Type 0} → Mailbox → List A → Bool
fills b xs = nat_le b.capacity (length xs)

-- whether the sender of the oldest message waits with it differs from the mode given; all queued ones are of one mode
abbrev pub other_mode : Bool → Option Message → Bool
other_mode waiting None = false
other_mode waiting (Some x) = cond waiting (not (is_some x.sender)) (is_some x.sender)

-- The store

-- the next number is used up, by a message that is accepted
abbrev pub use_number : State → State
use_number s = with_counts (with_next s (s.next + 1)) (count_accepted s.counts)

-- the bytes are held under the next number
abbrev pub accept : Kind → State → List ℕ → State
accept kind s bytes = use_number (with_store s (with s.held s.next bytes) (s.used + kind.cost (length bytes)))

-- the bytes of message n leave the store
abbrev pub release : Kind → State → ℕ → State
release kind s n = with_store s (without s.held n) (s.used - units_in kind.cost (s.held n))

-- the bytes of message n at the front of a buffer, and the rest as it was
abbrev pub written : State → ℕ → List ℕ → List ℕ
written s n buffer = bytes_in (s.held n) ++ drop (length (bytes_in (s.held n))) buffer

-- Leaving a queue

-- the oldest message of a mailbox leaves it, and its bytes the store
abbrev pub take_out : Kind → State → ℕ → Message → (Counts → Counts) → State
take_out kind s m x count = with_counts (edit_mailbox (release kind s x.number) m unqueue_oldest) (count s.counts)

-- a message leaves the queue and the store, since its sender's deadline is reached
abbrev pub withdraw : Kind → State → ℕ → ℕ → State
withdraw kind s m n = with_counts (edit_mailbox (release kind s n) m (unqueue n)) (count_withdrawn s.counts)

-- the sender that waited with a message is told of its hand-over
abbrev pub wake_sender : Kind → State → Message → Option ℕ → State
wake_sender kind s x None = s
wake_sender kind s x (Some t) = wake kind s t (HandOver x.number)

-- the first state where the test holds, else the second
unfoldable pub choose : Bool → State → State → State
choose b x y = cond b x y
