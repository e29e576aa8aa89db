-- What holds at each state that a kernel comes through, in the midst of a tick too, with what has happened by then.
use Rattle.std.proofs.Common.{◌≡◌, ℕ, ◌+◌, ◌≤◌, Bool, false, cond, ◌||◌, eqb, ◌⊎◌, List, [], ◌∷◌, ◌++◌, map, length, is_some, Some, None, Option}
use mathlib.Core.List.{Sublist}
use Rattle.std.specs.List.{ContainsAt as Has, AllByRecursion}
use Rattle.store.specs.Meaning.{units_in}
use Rattle.answers.specs.declared.answer.Status.{Status}
use Rattle.art.specs.declared.task.Activity.{Activity}
use Rattle.art.specs.declared.task.Activity.TheVariants.{Ready, Receiving, Sending, Asleep}
use Rattle.art.specs.declared.task.Due.TheVariants.{Sent, Given}
use Rattle.art.specs.declared.task.Message.{Message}
use Rattle.art.specs.declared.task.Task.{Task}
use Rattle.art.specs.State.{Kind, Mailbox, State, top}
use Rattle.art.specs.Verbs.{due_of, urgent}
use Rattle.law.specs.History.{Acceptance, HandOver, Life, History, of_option}
use Rattle.law.specs.Law.{count, sum_of, of_mailboxes, of_tasks, given_by, told_by, is_ok, is_deadline_reached, accepted, handed_over, brought, told, accepted_at, handed_over_at, living, holds, queued, given, AsSent, SentBy}

abbrev pub Tasks : Type 0
Tasks = ℕ → Option Task

abbrev pub Mailboxes : Type 0
Mailboxes = ℕ → Option Mailbox

-- Places: where a task stands, by what it does

abbrev pub readies : Activity → ℕ
readies Ready = 1
readies (Receiving _) = 0
readies (Sending _ _) = 0
readies (Asleep _) = 0

-- how often it stands among the receivers of mailbox m, and the messages of mailbox m with which it waits
abbrev pub receives : ℕ → Activity → ℕ
receives m Ready = 0
receives m (Receiving i) = cond (eqb m i) 1 0
receives m (Sending _ _) = 0
receives m (Asleep _) = 0

abbrev pub sends : ℕ → Activity → List ℕ
sends m Ready = []
sends m (Receiving _) = []
sends m (Sending i n) = cond (eqb m i) (n ∷ []) []
sends m (Asleep _) = []

-- a number or a list by what a task does, 0 or nothing where none lives
abbrev pub by : (Activity → ℕ) → Option Task → ℕ
by f None = 0
by f (Some x) = f x.activity

abbrev pub listed : (Activity → List ℕ) → Option Task → List ℕ
listed f None = []
listed f (Some x) = f x.activity

abbrev pub receivers_in : Option Mailbox → List ℕ
receivers_in None = []
receivers_in (Some b) = b.receivers

abbrev pub messages_in : Option Mailbox → List Message
messages_in None = []
messages_in (Some b) = b.messages

-- the number of a message, if task t is its sender
abbrev pub number_if : ℕ → ℕ → Option ℕ → List ℕ
number_if t n None = []
number_if t n (Some u) = cond (eqb t u) (n ∷ []) []

-- the messages of a queue with which task t waits
abbrev pub sent_by : ℕ → List Message → List ℕ
sent_by t [] = []
sent_by t (x ∷ xs) = number_if t x.number x.sender ++ sent_by t xs

-- the task t, which is o, stands where what it does says, and nowhere else
pub record Stands (t : ℕ) (o : Option Task) (boxes : Mailboxes) (ready : List ℕ) : Type 0 where
  pub in_ready : count t ready ≡ by readies o
  pub in_receivers : (m : ℕ) → count t (receivers_in (boxes m)) ≡ by (receives m) o
  pub in_senders : (m : ℕ) → sent_by t (messages_in (boxes m)) ≡ listed (sends m) o
  pub bounded : (m : ℕ) → 32 ≤ m → (by (receives m) o ≡ 0) × (listed (sends m) o ≡ [])

abbrev pub Placed : Tasks → Mailboxes → List ℕ → Type 0
Placed tasks boxes ready = (t : ℕ) → Stands t (tasks t) boxes ready

-- Tasks

-- tasks have numbers below 64; who waits or sleeps has no answer due; who lives, lives by what has happened
pub record Tasked (tasks : Tasks) (lives : List Life) : Type 0 where
  pub range : (t : ℕ) → 64 ≤ t → tasks t ≡ None
  pub calm : (t : ℕ) (x : Task) → tasks t ≡ Some x → readies x.activity ≡ 0 → x.due ≡ None
  pub alive : (t : ℕ) → living t lives ≡ is_some (tasks t)

-- the ready list: no task but task 0 goes before one in front of it, and task 0 stands last
abbrev pub Behind : Kind → Tasks → ℕ → List ℕ → Type 0
Behind kind tasks u l = (v : ℕ) → (v ≡ 0 → ⊥) → 1 ≤ count v l → urgent kind (tasks v) (tasks u) ≡ false

abbrev pub Ordered : Kind → Tasks → List ℕ → Type 0
Ordered kind tasks [] = ⊥
Ordered kind tasks (u ∷ []) = u ≡ 0
Ordered kind tasks (u ∷ (v ∷ vs)) = (u ≡ 0 → ⊥) × Behind kind tasks u (v ∷ vs) × Ordered kind tasks (v ∷ vs)

-- Mailboxes: each has room and a size that the store takes, and holds messages or receivers, not both
pub record Shaped (b : Mailbox) : Type 0 where
  pub room : 1 ≤ b.capacity
  pub some : 1 ≤ b.size
  pub small : b.size ≤ 128
  pub apart : (b.messages ≡ []) ⊎ (b.receivers ≡ [])

abbrev pub Boxed : Mailboxes → Type 0
Boxed boxes = (m : ℕ) (b : Mailbox) → boxes m ≡ Some b → Shaped b

-- Messages, by numbers

-- the messages in the queues, those given, and those whose senders have yet to collect a status
abbrev pub numbers : Mailbox → List ℕ
numbers b = map (λ x. x.number) b.messages

abbrev pub gift : Task → List ℕ
gift x = of_option x.due given_by

abbrev pub debt : (Status → Bool) → Task → List ℕ
debt is x = of_option x.due (told_by is)

abbrev pub all_queued : Mailboxes → List ℕ
all_queued boxes = of_mailboxes numbers boxes

abbrev pub all_given : Tasks → List ℕ
all_given tasks = of_tasks gift tasks

abbrev pub all_due : (Status → Bool) → Tasks → List ℕ
all_due is tasks = of_tasks (debt is) tasks

-- accepted messages and their fates, what the five counts are, what the store holds and what it costs
pub record Balanced (kind : Kind) (first : ℕ) (s : State) (h : History) : Type 0 where
  pub parted : (k : ℕ) → count k (accepted h) ≡ count k (queued s) + (count k (handed_over h) + (count k h.withdrawn + count k h.displaced))
  pub once : (k : ℕ) → count k (accepted h) ≤ 1
  pub new : (k : ℕ) → s.next ≤ k → count k (accepted h) ≡ 0
  pub used_up : first + length h.accepted ≡ s.next
  pub few : length h.accepted ≤ top + 1
  pub fetched : (k : ℕ) → count k (handed_over h) ≡ count k (brought h) + count k (given s)
  pub stored : (k : ℕ) → holds (s.held k) ≡ count k (queued s) + count k (given s)
  pub units : s.used ≡ sum_of (λ k. units_in kind.cost (s.held k)) (queued s) + sum_of (λ k. units_in kind.cost (s.held k)) (given s)
  pub room : s.used ≤ kind.capacity

pub record Counted (s : State) (h : History) : Type 0 where
  pub of_accepted : s.counts.accepted ≡ length h.accepted
  pub of_queued : s.counts.queued ≡ length (queued s)
  pub of_handed_over : s.counts.handed_over ≡ length h.handed_over
  pub of_withdrawn : s.counts.withdrawn ≡ length h.withdrawn
  pub of_displaced : s.counts.displaced ≡ length h.displaced

-- Messages, by what is known of each

-- a queued message was accepted at its mailbox, with its sender, and is as long as the mailbox asks for
pub record QueuedAt (h : History) (m size : ℕ) (x : Message) : Type 0 where
  pub sending : Acceptance
  pub was_accepted : Has h.accepted sending
  pub mailbox : sending.mailbox ≡ m
  pub number : sending.number ≡ x.number
  pub sender : sending.sender ≡ x.sender
  pub long : length sending.bytes ≡ size

-- message k was accepted and handed over to task t at one mailbox
pub record GivenTo (h : History) (t k : ℕ) : Type 0 where
  pub sending : Acceptance
  pub handing : HandOver
  pub was_accepted : Has h.accepted sending
  pub was_handed_over : Has h.handed_over handing
  pub number_sent : sending.number ≡ k
  pub number_handed_over : handing.number ≡ k
  pub mailbox : handing.mailbox ≡ sending.mailbox
  pub receiver : handing.receiver ≡ t

-- the bytes were sent under the number k
pub record SentAs (h : History) (k : ℕ) (bytes : List ℕ) : Type 0 where
  pub sending : Acceptance
  pub was_accepted : Has h.accepted sending
  pub number : sending.number ≡ k
  pub carried : sending.bytes ≡ bytes

pub record Traced (s : State) (h : History) : Type 0 where
  pub of_queued : (m : ℕ) (b : Mailbox) → s.mailboxes m ≡ Some b → AllByRecursion (QueuedAt h m b.size) b.messages
  pub of_given : (t k : ℕ) → due_of (s.tasks t) ≡ Some (Given k) → GivenTo h t k
  pub of_due : (t : ℕ) (st : Status) (k : ℕ) → due_of (s.tasks t) ≡ Some (Sent st k) → SentBy h t k
  pub of_held : (k : ℕ) (bytes : List ℕ) → s.held k ≡ Some bytes → SentAs h k bytes
  pub of_told : AllByRecursion (λ x. SentBy h x.task x.number) h.told
  pub of_brought : AllByRecursion (AsSent h) h.brought

-- the numbers of a queue in front of a list, the newest first
abbrev pub behind : List Message → List ℕ → List ℕ
behind [] l = l
behind (x ∷ xs) l = behind xs (x.number ∷ l)

-- what was handed over at a mailbox, and then what is queued there, is in the order of acceptance
abbrev pub InOrder : Mailboxes → History → Type 0
InOrder boxes h = (m : ℕ) → Sublist (behind (messages_in (boxes m)) (handed_over_at m h)) (accepted_at m h)

-- the messages that a send_wait accepted
abbrev pub waited : List Acceptance → List ℕ
waited [] = []
waited (a ∷ l) = cond (is_some a.sender) (a.number ∷ []) [] ++ waited l

abbrev pub member : ℕ → List ℕ → Bool
member k [] = false
member k (x ∷ xs) = eqb k x || member k xs

-- how often a waited message met a fate
abbrev pub met : ℕ → List Acceptance → List ℕ → ℕ
met k l fate = cond (member k (waited l)) (count k fate) 0

pub record Answered (tasks : Tasks) (h : History) : Type 0 where
  pub of_ok : (k : ℕ) → count k (told is_ok h) + count k (all_due is_ok tasks) ≡ met k h.accepted (handed_over h)
  pub of_deadline_reached : (k : ℕ) → count k (told is_deadline_reached h) + count k (all_due is_deadline_reached tasks) ≡ met k h.accepted h.withdrawn

-- AllByRecursion of it

pub record Sound (kind : Kind) (first : ℕ) (s : State) (h : History) : Type 0 where
  pub placed : Placed s.tasks s.mailboxes s.ready
  pub tasked : Tasked s.tasks h.lives
  pub ordered : Ordered kind s.tasks s.ready
  pub boxed : Boxed s.mailboxes
  pub balanced : Balanced kind first s h
  pub counted : Counted s h
  pub traced : Traced s h
  pub in_order : InOrder s.mailboxes h
  pub answered : Answered s.tasks h
