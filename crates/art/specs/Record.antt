-- A record: the lines that a kernel came through, and the state that they lead to.
use Rattle.std.specs.Prelude.{ℕ, List, [], ◌∷◌}
use Rattle.art.specs.State.{Kind, State, initial, running, with_counter}
use Rattle.art.specs.Verbs.{deadline_of}
use Rattle.art.specs.Rules.{Effect, Reply, Number, Counted, Silent, create_task, create_mailbox, terminate, remove_mailbox, send_wait, send_no_wait, receive_wait, receive_no_wait, wait, collect, set_deadline, set_ticks, tick}

-- one line: a call with its arguments, the bytes sent and the buffer lent among them
pub data Line : Type 0 where
  -- number, deadline, level
  CreateTask : ℕ → ℕ → ℕ → Line
  -- number, capacity, size
  CreateMailbox : ℕ → ℕ → ℕ → Line
  Run : Line
  Terminate : Line
  RemoveMailbox : ℕ → Line
  SendWait : ℕ → List ℕ → Line
  SendNoWait : ℕ → List ℕ → Line
  ReceiveWait : ℕ → List ℕ → Line
  ReceiveNoWait : ℕ → List ℕ → Line
  Wait : ℕ → Line
  Collect : List ℕ → Line
  SetDeadline : ℕ → Line
  SetTicks : ℕ → Line
  Ticks : Line
  Deadline : Line
  Running : Line
  Tick : Line
  Close : Line

-- any list of lines, the newest first
abbrev pub Record : Type 0
Record = List Line

-- a line that is lent no buffer, and asks or tells without being refused
abbrev pub telling : Reply → State → Effect
telling r s = record { reply = r; state = s; buffer = [] }

-- what a line answers and leaves
abbrev pub effect : Kind → State → Line → Effect
effect kind s (CreateTask t d l) = create_task kind s t d l
effect kind s (CreateMailbox m c z) = create_mailbox s m c z
effect kind s Run = telling Silent (with_counter s 0)
effect kind s Terminate = terminate s
effect kind s (RemoveMailbox m) = remove_mailbox s m
effect kind s (SendWait m bytes) = send_wait kind s m bytes
effect kind s (SendNoWait m bytes) = send_no_wait kind s m bytes
effect kind s (ReceiveWait m buffer) = receive_wait kind s m buffer
effect kind s (ReceiveNoWait m buffer) = receive_no_wait kind s m buffer
effect kind s (Wait n) = wait s n
effect kind s (Collect buffer) = collect kind s buffer
effect kind s (SetDeadline d) = set_deadline kind s d
effect kind s (SetTicks n) = set_ticks s n
effect kind s Ticks = telling (Number s.counter) s
effect kind s Deadline = telling (Number (deadline_of (s.tasks (running s)))) s
effect kind s Running = telling (Number (running s)) s
effect kind s Tick = tick kind s
effect kind s Close = telling (Counted s.counts) s

-- the state at the last line of a record, whose first message number is n
abbrev pub state : Kind → ℕ → Record → State
state kind n [] = initial n
state kind n (l ∷ r) = (effect kind (state kind n r) l).state
