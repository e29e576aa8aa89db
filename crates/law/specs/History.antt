-- What has happened on a record, gathered line by line from the arguments, the answers and the buffers left. Newest first.
use Rattle.std.specs.Prelude.{ℕ, cond, List, [], ◌∷◌, ◌++◌, Some, None, Ok, Err, Option}
use Rattle.answers.specs.declared.answer.Answer.{Answer}
use Rattle.answers.specs.declared.answer.Status.{Status}
use Rattle.answers.specs.declared.answer.Status.TheVariants.{Ok as OK, Blocked as BLOCKED, DeadlineReached as DEADLINE_REACHED}
use Rattle.art.specs.declared.task.Activity.{Activity}
use Rattle.art.specs.declared.task.Activity.TheVariants.{Ready, Receiving, Sending, Asleep}
use Rattle.art.specs.declared.task.Message.{Message}
use Rattle.art.specs.declared.task.Task.{Task}
use Rattle.art.specs.State.{Kind, State, running, last_task}
use Rattle.art.specs.Verbs.{is_empty, mailbox_at, oldest}
use Rattle.art.specs.Rules.{Effect, Reply, Answered, Number, Ticked, Counted, Silent, displaced_at, numbers_from}
use Rattle.art.specs.Record.{Line, CreateTask, CreateMailbox, Run, Terminate, RemoveMailbox, SendWait, SendNoWait, ReceiveWait, ReceiveNoWait, Wait, Collect, SetDeadline, SetTicks, Ticks, Deadline, Running, Tick, Close, Record, effect, state}

-- What can happen

-- a task is created or terminated
pub data Life : Type 0 where
  Created : ℕ → Life
  Ended : ℕ → Life

-- a send is accepted: its mailbox, the number and the bytes of its message, and its sender, where it is a send_wait
pub record Acceptance : Type 0 where
  pub mailbox : ℕ
  pub number : ℕ
  pub bytes : List ℕ
  pub sender : Option ℕ

-- a receiver takes a message or is given it
pub record HandOver : Type 0 where
  pub mailbox : ℕ
  pub number : ℕ
  pub receiver : ℕ

-- a task is told what became of the message that it sent
pub record Notice : Type 0 where
  pub task : ℕ
  pub status : Status
  pub number : ℕ

-- a message comes to a receiver: number and length as answered, the buffer as lent and as left
pub record Delivery : Type 0 where
  pub task : ℕ
  pub number : ℕ
  pub length : ℕ
  pub lent : List ℕ
  pub left : List ℕ

pub record History : Type 0 where
  pub lives : List Life
  pub accepted : List Acceptance
  pub handed_over : List HandOver
  -- messages by their numbers
  pub withdrawn : List ℕ
  pub displaced : List ℕ
  pub told : List Notice
  pub brought : List Delivery

abbrev pub no_history : History
no_history = record { lives = []; accepted = []; handed_over = []; withdrawn = []; displaced = []; told = []; brought = [] }

-- What a line shows

-- something for what is there, nothing for what is absent
abbrev pub of_option : {A B : Type 0} → Option A → (A → List B) → List B
of_option None f = []
of_option (Some x) f = f x

-- something for the answer of an accepted call, nothing for a refusal
abbrev pub of_answer : {B : Type 0} → Reply → (Answer → List B) → List B
of_answer (Answered (Ok a)) f = f a
of_answer (Answered (Err _)) f = []
of_answer (Number _) f = []
of_answer (Ticked _ _) f = []
of_answer (Counted _) f = []
of_answer Silent f = []

-- BLOCKED tells nothing of a message yet
abbrev pub notice : ℕ → Status → ℕ → List Notice
notice t OK n = record { task = t; status = OK; number = n } ∷ []
notice t BLOCKED n = []
notice t DEADLINE_REACHED n = record { task = t; status = DEADLINE_REACHED; number = n } ∷ []

-- an answer with a message and no length tells a sender of it
abbrev pub notice_in : ℕ → Status → ℕ → Option ℕ → List Notice
notice_in t st n None = notice t st n
notice_in t st n (Some _) = []

abbrev pub notices : ℕ → Answer → List Notice
notices t a = of_option a.message (λ n. notice_in t a.status n a.length)

-- an answer with a message and its length brings it
abbrev pub deliveries : ℕ → List ℕ → List ℕ → Answer → List Delivery
deliveries t lent left a =
    of_option a.message (λ n. of_option a.length (λ l. record { task = t; number = n; length = l; lent = lent; left = left } ∷ []))

-- the message with which a task waits
abbrev pub sending_by : Activity → List ℕ
sending_by Ready = []
sending_by (Receiving _) = []
sending_by (Sending _ n) = n ∷ []
sending_by (Asleep _) = []

abbrev pub waits_with : Option Task → List ℕ
waits_with o = of_option o (λ x. sending_by x.activity)

-- the message with which task t waited in the first state, and no longer in the second
abbrev pub waited_till : State → State → ℕ → List ℕ
waited_till before after t = cond (is_empty (waits_with (after.tasks t))) (waits_with (before.tasks t)) []

-- what f has for each number, the last number's first
abbrev pub latest : {A : Type 0} → (ℕ → List A) → List ℕ → List A
latest f [] = []
latest f (n ∷ ns) = latest f ns ++ f n

-- What a line adds

-- a call that may create or end a task
abbrev pub lived : Life → Reply → History → History
lived l reply h =
    record {
      lives = of_answer reply (λ _. l ∷ []) ++ h.lives;
      accepted = h.accepted;
      handed_over = h.handed_over;
      withdrawn = h.withdrawn;
      displaced = h.displaced;
      told = h.told;
      brought = h.brought;
    }

-- a send at the state s, by a sender that waits or none, which displaces a message or none; it goes to the oldest receiver, if one waits
abbrev pub sent : State → ℕ → List ℕ → Option ℕ → Option Message → Reply → History → History
sent s m bytes sender displaced reply h =
    record {
      lives = h.lives;
      accepted = of_answer reply (λ a. of_option a.message (λ n. record { mailbox = m; number = n; bytes = bytes; sender = sender } ∷ [])) ++ h.accepted;
      handed_over = of_answer reply (λ a. of_option a.message (λ n. of_option (oldest (mailbox_at s m).receivers) (λ t. record { mailbox = m; number = n; receiver = t } ∷ []))) ++ h.handed_over;
      withdrawn = h.withdrawn;
      displaced = of_answer reply (λ _. of_option displaced (λ x. x.number ∷ [])) ++ h.displaced;
      told = of_answer reply (λ a. of_option sender (λ t. notices t a)) ++ h.told;
      brought = h.brought;
    }

-- a receive by task t
abbrev pub received : ℕ → ℕ → List ℕ → List ℕ → Reply → History → History
received t m lent left reply h =
    record {
      lives = h.lives;
      accepted = h.accepted;
      handed_over = of_answer reply (λ a. of_option a.message (λ n. record { mailbox = m; number = n; receiver = t } ∷ [])) ++ h.handed_over;
      withdrawn = h.withdrawn;
      displaced = h.displaced;
      told = h.told;
      brought = of_answer reply (deliveries t lent left) ++ h.brought;
    }

-- a collect by task t
abbrev pub settled : ℕ → List ℕ → List ℕ → Reply → History → History
settled t lent left reply h =
    record {
      lives = h.lives;
      accepted = h.accepted;
      handed_over = h.handed_over;
      withdrawn = h.withdrawn;
      displaced = h.displaced;
      told = of_answer reply (notices t) ++ h.told;
      brought = of_answer reply (deliveries t lent left) ++ h.brought;
    }

-- a tick, which may end the waiting of senders
abbrev pub expired : State → State → History → History
expired before after h =
    record {
      lives = h.lives;
      accepted = h.accepted;
      handed_over = h.handed_over;
      withdrawn = latest (waited_till before after) (numbers_from 1 last_task) ++ h.withdrawn;
      displaced = h.displaced;
      told = h.told;
      brought = h.brought;
    }

-- what a line adds at the state before it, which answers and leaves the effect e
abbrev pub with_line : State → Line → Effect → History → History
with_line s (CreateTask t d l) e h = lived (Created t) e.reply h
with_line s (CreateMailbox m c z) e h = h
with_line s Run e h = h
with_line s Terminate e h = lived (Ended (running s)) e.reply h
with_line s (RemoveMailbox m) e h = h
with_line s (SendWait m bytes) e h = sent s m bytes (Some (running s)) None e.reply h
with_line s (SendNoWait m bytes) e h = sent s m bytes None (displaced_at s m) e.reply h
with_line s (ReceiveWait m buffer) e h = received (running s) m buffer e.buffer e.reply h
with_line s (ReceiveNoWait m buffer) e h = received (running s) m buffer e.buffer e.reply h
with_line s (Wait n) e h = h
with_line s (Collect buffer) e h = settled (running s) buffer e.buffer e.reply h
with_line s (SetDeadline d) e h = h
with_line s (SetTicks n) e h = h
with_line s Ticks e h = h
with_line s Deadline e h = h
with_line s Running e h = h
with_line s Tick e h = expired s e.state h
with_line s Close e h = h

-- what has happened by the last line of a record, whose first message number is n
abbrev pub history : Kind → ℕ → Record → History
history kind n [] = no_history
history kind n (l ∷ r) = with_line (state kind n r) l (effect kind (state kind n r) l) (history kind n r)

-- what the last line answers
abbrev pub last_reply : Kind → ℕ → Record → Reply
last_reply kind n [] = Silent
last_reply kind n (l ∷ r) = (effect kind (state kind n r) l).reply
