-- Short records, and what has happened on them.
use Rattle.std.specs.Prelude.{◌≡◌, ℕ, List, [], ◌∷◌, ◌++◌, reverse, replicate, Some, None}
use Rattle.answers.specs.declared.answer.Status.TheVariants.{Ok as OK, DeadlineReached as DEADLINE_REACHED}
use Rattle.art.specs.State.{Kind, by_level}
use Rattle.art.specs.Record.{Line, CreateTask, CreateMailbox, Run, Terminate, SendWait, SendNoWait, ReceiveWait, ReceiveNoWait, Wait, Collect, Tick}
use Rattle.law.specs.History.{Acceptance, History, Created, Ended, history}

-- a slot store, under the level order
abbrev pub slots : Kind
slots = record { capacity = 64; cost = λ l. 1; before = by_level }

-- what has happened after lines, here in the order in which they come, where the first message is number 7
abbrev pub after : List Line → History
after lines = history slots 7 (reverse lines)

abbrev pub ticks : ℕ → List Line
ticks n = replicate n Tick

-- an order of two bytes, a buffer of three, and the buffer with the order in it
abbrev pub order : List ℕ
order = 1 ∷ 2 ∷ []

abbrev pub lent : List ℕ
lent = 170 ∷ 170 ∷ 170 ∷ []

abbrev pub left : List ℕ
left = 1 ∷ 2 ∷ 170 ∷ []

-- the registrar, task 1, has deadline 20 and level 5; the signer, task 2, is the more urgent, and sleeps until counter 19;
-- the registrar sends its order and waits
abbrev pub ordered : List Line
ordered = CreateMailbox 3 4 2 ∷ CreateTask 1 20 5 ∷ CreateTask 2 90 1 ∷ Run ∷ Wait 19 ∷ SendWait 3 order ∷ ticks 19

abbrev pub sent : Acceptance
sent = record { mailbox = 3; number = 7; bytes = order; sender = Some 1 }

-- the signer collects and receives at 19, works until 31 and sleeps; only then the registrar collects
abbrev pub taken_in_time : List Line
taken_in_time = ordered ++ (Collect [] ∷ ReceiveNoWait 3 lent ∷ (ticks 12 ++ (Wait 50 ∷ Collect [] ∷ [])))

pub record TakenInTime : Type 0 where
  pub accepted : (after taken_in_time).accepted ≡ sent ∷ []
  pub handed_over : (after taken_in_time).handed_over ≡ record { mailbox = 3; number = 7; receiver = 2 } ∷ []
  pub withdrawn : (after taken_in_time).withdrawn ≡ []
  pub told : (after taken_in_time).told ≡ record { task = 1; status = OK; number = 7 } ∷ []
  pub brought : (after taken_in_time).brought ≡ record { task = 2; number = 7; length = 2; lent = lent; left = left } ∷ []

-- the signer receives only after the tick to 20
abbrev pub taken_too_late : List Line
taken_too_late = ordered ++ (Tick ∷ Collect [] ∷ ReceiveNoWait 3 lent ∷ (ticks 11 ++ (Wait 50 ∷ Collect [] ∷ [])))

pub record TakenTooLate : Type 0 where
  pub accepted : (after taken_too_late).accepted ≡ sent ∷ []
  pub handed_over : (after taken_too_late).handed_over ≡ []
  pub withdrawn : (after taken_too_late).withdrawn ≡ 7 ∷ []
  pub told : (after taken_too_late).told ≡ record { task = 1; status = DEADLINE_REACHED; number = 7 } ∷ []
  pub brought : (after taken_too_late).brought ≡ []

-- the signer waits for a message, task 0 sends one that it is given, and it collects
abbrev pub given : List Line
given = CreateMailbox 3 1 2 ∷ CreateTask 2 90 1 ∷ Run ∷ ReceiveWait 3 lent ∷ SendNoWait 3 order ∷ []

pub record Given : Type 0 where
  pub handed_over : (after given).handed_over ≡ record { mailbox = 3; number = 7; receiver = 2 } ∷ []
  pub not_brought_yet : (after given).brought ≡ []
  pub brought : (after (given ++ (Collect lent ∷ []))).brought ≡ record { task = 2; number = 7; length = 2; lent = lent; left = left } ∷ []

-- a second send to a mailbox with room for one message, and one that is refused; a task that comes and goes
abbrev pub two_sends : List Line
two_sends = CreateMailbox 3 1 2 ∷ CreateTask 2 90 1 ∷ Run ∷ SendNoWait 3 order ∷ SendNoWait 3 order ∷ SendNoWait 3 [] ∷ CreateTask 2 90 1 ∷ Terminate ∷ []

pub record Displaced : Type 0 where
  pub accepted : (after two_sends).accepted ≡ record { mailbox = 3; number = 8; bytes = order; sender = None } ∷ record { mailbox = 3; number = 7; bytes = order; sender = None } ∷ []
  pub displaced : (after two_sends).displaced ≡ 7 ∷ []
  pub lives : (after two_sends).lives ≡ Ended 2 ∷ Created 2 ∷ []

pub record Histories : Type 0 where
  pub taken_in_time : TakenInTime
  pub taken_too_late : TakenTooLate
  pub given : Given
  pub displaced : Displaced
