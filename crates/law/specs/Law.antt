-- The law of the record: what holds at each line of each record, for every store and every order that keep their rules.
use Rattle.std.specs.Prelude.{◌≡◌, ℕ, ◌+◌, ◌≤◌, Bool, true, false, cond, List, [], ◌∷◌, ◌++◌, map, length, drop, is_some, Some, None, Ok, Err, filter, Option, ◌==◌, ◌≢◌, nat_eq}
use mathlib.Core.List.{Sublist}
use Rattle.std.specs.List.{ContainsAt as Has, AllByRecursion}
use Rattle.store.specs.Meaning.{units_in}
use Rattle.answers.specs.declared.answer.Status.{Status}
use Rattle.answers.specs.declared.answer.Status.TheVariants.{Ok as OK, Blocked as BLOCKED, DeadlineReached as DEADLINE_REACHED}
use Rattle.art.specs.declared.task.Activity.{Activity}
use Rattle.art.specs.declared.task.Activity.TheVariants.{Ready, Receiving, Sending, Asleep}
use Rattle.art.specs.declared.task.Due.{Due}
use Rattle.art.specs.declared.task.Due.TheVariants.{Sent, Given, Plain}
use Rattle.art.specs.declared.task.Message.{Message}
use Rattle.art.specs.declared.task.Task.{Task}
use Rattle.art.specs.State.{Kind, Mailbox, State, last_task, running}
use Rattle.art.specs.Verbs.{due_of, fills, mailbox_at, urgent}
use Rattle.art.specs.Rules.{Reply, Answered, Number, Ticked, Counted, Silent, numbers_from}
use Rattle.art.specs.Record.{SendNoWait, Running, Tick, Close, Record, effect, state}
use Rattle.law.specs.History.{Acceptance, HandOver, Delivery, Life, Created, Ended, History, history, last_reply, of_option}

-- Counting

-- the sum of f over a list
abbrev pub sum_of : {A : Type 0} → (A → ℕ) → List A → ℕ
sum_of f [] = 0
sum_of f (x ∷ xs) = f x + sum_of f xs

-- how often k stands in a list
abbrev pub count : ℕ → List ℕ → ℕ
count k xs = sum_of (λ x. cond (k == x) 1 0) xs

-- Where messages and tasks are in a state

-- the lists of f joined
abbrev pub each : {A B : Type 0} → (A → List B) → List A → List B
each f [] = []
each f (x ∷ xs) = f x ++ each f xs

-- what f has for each mailbox in use, and for each living task
unfoldable pub of_mailboxes : {A : Type 0} → (Mailbox → List A) → (ℕ → Option Mailbox) → List A
of_mailboxes f mailboxes = each (λ m. of_option (mailboxes m) f) (numbers_from 0 32)

unfoldable pub of_tasks : {A : Type 0} → (Task → List A) → (ℕ → Option Task) → List A
of_tasks f tasks = each (λ t. of_option (tasks t) f) (numbers_from 0 (last_task + 1))

-- the messages that stand in mailboxes
abbrev pub queued : State → List ℕ
queued s = of_mailboxes (λ b. map (λ x. x.number) b.messages) s.mailboxes

-- the tasks that wait at mailboxes for a message, and those that wait with one
abbrev pub receivers : State → List ℕ
receivers s = of_mailboxes (λ b. b.receivers) s.mailboxes

abbrev pub sender_in : Message → List ℕ
sender_in x = of_option x.sender (λ t. t ∷ [])

abbrev pub senders : State → List ℕ
senders s = of_mailboxes (λ b. each sender_in b.messages) s.mailboxes

abbrev pub asleep_by : Activity → ℕ
asleep_by Ready = 0
asleep_by (Receiving _) = 0
asleep_by (Sending _ _) = 0
asleep_by (Asleep _) = 1

abbrev pub asleep : Option Task → ℕ
asleep None = 0
asleep (Some x) = asleep_by x.activity

-- the message that an answer due brings, and the one of which it tells a status
abbrev pub given_by : Due → List ℕ
given_by (Sent _ _) = []
given_by (Given n) = n ∷ []
given_by (Plain _) = []

abbrev pub told_by : (Status → Bool) → Due → List ℕ
told_by is (Sent st n) = cond (is st) (n ∷ []) []
told_by is (Given _) = []
told_by is (Plain _) = []

-- the messages given to receivers that have yet to collect them
abbrev pub given : State → List ℕ
given s = of_tasks (λ x. of_option x.due given_by) s.tasks

-- the messages whose senders have yet to collect a status
abbrev pub due : (Status → Bool) → State → List ℕ
due is s = of_tasks (λ x. of_option x.due (told_by is)) s.tasks

abbrev pub is_ok : Status → Bool
is_ok OK = true
is_ok BLOCKED = false
is_ok DEADLINE_REACHED = false

abbrev pub is_deadline_reached : Status → Bool
is_deadline_reached OK = false
is_deadline_reached BLOCKED = false
is_deadline_reached DEADLINE_REACHED = true

-- What has happened, by numbers

abbrev pub accepted : History → List ℕ
accepted h = map (λ a. a.number) h.accepted

abbrev pub handed_over : History → List ℕ
handed_over h = map (λ x. x.number) h.handed_over

abbrev pub brought : History → List ℕ
brought h = map (λ d. d.number) h.brought

abbrev pub told : (Status → Bool) → History → List ℕ
told is h = map (λ x. x.number) (filter (λ x. is x.status) h.told)

-- the messages accepted and handed over at mailbox m
abbrev pub accepted_at : ℕ → History → List ℕ
accepted_at m h = map (λ a. a.number) (filter (λ a. nat_eq m a.mailbox) h.accepted)

abbrev pub handed_over_at : ℕ → History → List ℕ
handed_over_at m h = map (λ x. x.number) (filter (λ x. nat_eq m x.mailbox) h.handed_over)

-- task 0, and each task created and not since terminated
abbrev pub living : ℕ → List Life → Bool
living t [] = t == 0
living t (Created u ∷ ls) = cond (t == u) true (living t ls)
living t (Ended u ∷ ls) = cond (t == u) false (living t ls)

-- The law, part by part

-- each accepted message is queued, handed over, withdrawn or displaced, and just one of these
pub record Fates (kind : Kind) (s : State) (h : History) : Type 0 where
  pub parted : (k : ℕ) → count k (accepted h) ≡ count k (queued s) + (count k (handed_over h) + (count k h.withdrawn + count k h.displaced))
  pub once : (k : ℕ) → count k (accepted h) ≤ 1
  pub total : length h.accepted ≡ length (queued s) + (length h.handed_over + (length h.withdrawn + length h.displaced))
  pub close : (effect kind s Close).reply ≡ Counted (record { accepted = length h.accepted; queued = length (queued s); handed_over = length h.handed_over; withdrawn = length h.withdrawn; displaced = length h.displaced })

-- what came to a receiver is what was sent, and was handed over to that receiver; the rest of the buffer stays
pub record AsSent (h : History) (d : Delivery) : Type 0 where
  pub sending : Acceptance
  pub handing : HandOver
  pub was_accepted : Has h.accepted sending
  pub was_handed_over : Has h.handed_over handing
  pub number_sent : sending.number ≡ d.number
  pub number_handed_over : handing.number ≡ d.number
  pub mailbox : handing.mailbox ≡ sending.mailbox
  pub receiver : handing.receiver ≡ d.task
  pub long : d.length ≡ length sending.bytes
  pub front : d.left ≡ sending.bytes ++ drop (length sending.bytes) d.lent

-- each message handed over was brought once, or is still to be collected
pub record Bytes (s : State) (h : History) : Type 0 where
  pub as_sent : AllByRecursion (AsSent h) h.brought
  pub once : (k : ℕ) → count k (handed_over h) ≡ count k (brought h) + count k (given s)

-- task t sent message k and waits for the answer
pub record SentBy (h : History) (t k : ℕ) : Type 0 where
  pub sending : Acceptance
  pub was_accepted : Has h.accepted sending
  pub number : sending.number ≡ k
  pub sender : sending.sender ≡ Some t

-- a sender that waits has OK given or due exactly when its message was handed over, DEADLINE_REACHED exactly when it was withdrawn
pub record Answers (s : State) (h : History) : Type 0 where
  pub ok : (a : Acceptance) → Has h.accepted a → is_some a.sender ≡ true → count a.number (told is_ok h) + count a.number (due is_ok s) ≡ count a.number (handed_over h)
  pub deadline_reached : (a : Acceptance) → Has h.accepted a → is_some a.sender ≡ true → count a.number (told is_deadline_reached h) + count a.number (due is_deadline_reached s) ≡ count a.number h.withdrawn
  pub once : (k : ℕ) → (count k (told is_ok h) + count k (due is_ok s)) + (count k (told is_deadline_reached h) + count k (due is_deadline_reached s)) ≤ 1
  pub told_to_sender : AllByRecursion (λ x. SentBy h x.task x.number) h.told
  pub due_to_sender : (t : ℕ) (st : Status) (k : ℕ) → due_of (s.tasks t) ≡ Some (Sent st k) → SentBy h t k

-- at how many places task t stands: in the ready list, as a receiver, as a sender, asleep
abbrev pub places : State → ℕ → ℕ
places s t = count t s.ready + (count t (receivers s) + (count t (senders s) + asleep (s.tasks t)))

-- the running task is ready, and no ready task besides task 0 goes before it; task 0 runs only where it alone is ready
pub record Urgency (kind : Kind) (n : ℕ) (r : Record) : Type 0 where
  pub ready : 1 ≤ count (running (state kind n r)) (state kind n r).ready
  pub first : (t : ℕ) → (t ≢ 0) → 1 ≤ count t (state kind n r).ready → urgent kind ((state kind n r).tasks t) ((state kind n r).tasks (running (state kind n r))) ≡ false
  pub idle : running (state kind n r) ≡ 0 → (state kind n r).ready ≡ 0 ∷ []
  -- `running` and a tick name it
  pub asked : (before : Record) → r ≡ Running ∷ before → last_reply kind n r ≡ Number (running (state kind n r))
  pub ticked : (before : Record) → r ≡ Tick ∷ before → (k : ℕ) × (last_reply kind n r ≡ Ticked k (running (state kind n r)))

-- the number of the refusal in a reply, 0 where there is none
abbrev pub refusal_in : Reply → ℕ
refusal_in (Answered (Ok _)) = 0
refusal_in (Answered (Err t)) = t.number
refusal_in (Number _) = 0
refusal_in (Ticked _ _) = 0
refusal_in (Counted _) = 0
refusal_in Silent = 0

-- BAD_LENGTH, HELD, NOT_HELD and CRAMPED, which only a store called directly answers
abbrev pub stores_own : List ℕ
stores_own = 17 ∷ 18 ∷ 19 ∷ 21 ∷ []

-- whether something is held
abbrev pub holds : Option (List ℕ) → ℕ
holds None = 0
holds (Some _) = 1

-- of the store's refusals a call meets STORE_FULL alone, and a send that displaces a message not even that
pub record ListedAnswers (kind : Kind) (n : ℕ) (r : Record) : Type 0 where
  pub listed : AllByRecursion (λ number. refusal_in (last_reply kind n r) ≢ number) stores_own
  pub displacing : (before : Record) (m : ℕ) (bytes : List ℕ) → r ≡ SendNoWait m bytes ∷ before → fills (mailbox_at (state kind n before) m) (mailbox_at (state kind n before) m).messages ≡ true → refusal_in (last_reply kind n r) ≢ 20
  -- the store holds exactly what is queued or given, and its units are the sum of their costs
  pub held : (k : ℕ) → holds ((state kind n r).held k) ≡ count k (queued (state kind n r)) + count k (given (state kind n r))
  pub units : (state kind n r).used ≡ sum_of (λ k. units_in kind.cost ((state kind n r).held k)) (queued (state kind n r) ++ given (state kind n r))
  pub room : (state kind n r).used ≤ kind.capacity

-- The law at the last line of a record, whose first message number is n

pub record Lawful (kind : Kind) (n : ℕ) (r : Record) : Type 0 where
  pub fates : Fates kind (state kind n r) (history kind n r)
  pub bytes : Bytes (state kind n r) (history kind n r)
  -- a mailbox hands messages over in the order in which it accepted them
  pub order : (m : ℕ) → Sublist (handed_over_at m (history kind n r)) (accepted_at m (history kind n r))
  pub answers : Answers (state kind n r) (history kind n r)
  -- each living task stands in just one place, and no other number in any
  pub places : (t : ℕ) → places (state kind n r) t ≡ cond (living t (history kind n r).lives) 1 0
  pub urgency : Urgency kind n r
  pub listed_answers : ListedAnswers kind n r
