-- The edges of the rules: short records, and what their last line answers or leaves.
use Rattle.std.specs.Prelude.{◌≡◌, ℕ, ◌+◌, List, [], ◌∷◌, ◌++◌, reverse, replicate, Some, None, Ok, Err}
use Rattle.store.specs.declared.fault.Layer.TheVariants.{Kernel as KERNEL, Store as STORE}
use Rattle.answers.specs.declared.answer.Answer.{Answer}
use Rattle.answers.specs.declared.answer.Status.TheVariants.{Ok as OK, Blocked as BLOCKED, DeadlineReached as DEADLINE_REACHED}
use Rattle.art.specs.State.{Kind, State, by_deadline, top}
use Rattle.art.specs.Rules.{Reply, Answered, Number, Ticked, Effect, plain, naming, displacing, bringing}
use Rattle.art.specs.Record.{Line, CreateTask, CreateMailbox, Run, Terminate, SendWait, SendNoWait, ReceiveWait, ReceiveNoWait, Wait, Collect, SetTicks, Ticks, Running, Tick, effect, state}

-- the two kinds of store, under the deadline order
abbrev pub slots : Kind
slots = record { capacity = 64; cost = λ l. 1; before = by_deadline }

abbrev pub packed : Kind
packed = record { capacity = 4096; cost = λ l. l + 16; before = by_deadline }

-- the state after lines, here in the order in which they come, and what one more line does
abbrev pub at : Kind → ℕ → List Line → State
at kind n lines = state kind n (reverse lines)

abbrev pub next : Kind → ℕ → List Line → Line → Effect
next kind n lines line = effect kind (at kind n lines) line

-- an accepted call, and one that is refused in a layer, at a place
abbrev pub ok : Answer → Reply
ok a = Answered (Ok a)

abbrev pub refused : ℕ → ℕ → Reply
refused number place = Answered (Err (record { number = number; layer = KERNEL; place = place; units = None }))

abbrev pub store_full : ℕ → ℕ → ℕ → Reply
store_full place wanted free =
    Answered (Err (record { number = 20; layer = STORE; place = place; units = Some (record { wanted = wanted; free = free }) }))

-- one byte, a buffer of two bytes, and l bytes
abbrev pub byte : List ℕ
byte = 9 ∷ []

abbrev pub buffer : List ℕ
buffer = 170 ∷ 170 ∷ []

abbrev pub bytes : ℕ → List ℕ
bytes l = replicate l 7

abbrev pub ticks : ℕ → List Line
ticks n = replicate n Tick

-- task 1 waits at mailbox 0 for a message, with deadline 5
abbrev pub a_receiver_waits : List Line
a_receiver_waits = CreateMailbox 0 1 1 ∷ CreateTask 1 5 0 ∷ Run ∷ ReceiveWait 0 buffer ∷ []

pub record ReceiverAtItsDeadline : Type 0 where
  pub waits_on_at_4 : (next slots 1 (a_receiver_waits ++ ticks 3) Tick).reply ≡ Ticked 0 0
  pub ready_at_5 : (next slots 1 (a_receiver_waits ++ ticks 4) Tick).reply ≡ Ticked 1 1
  pub told : (next slots 1 (a_receiver_waits ++ ticks 5) (Collect buffer)).reply ≡ ok (plain DEADLINE_REACHED)

-- task 1 alone, with a deadline, and asleep for some ticks from counter 0
abbrev pub a_task : ℕ → List Line
a_task d = CreateTask 1 d 0 ∷ Run ∷ []

abbrev pub a_sleeper : ℕ → ℕ → List Line
a_sleeper d n = a_task d ++ (Wait n ∷ [])

pub record Sleeping : Type 0 where
  pub deadline_ends_it_first : (next slots 1 (a_sleeper 3 3 ++ ticks 3) (Collect [])).reply ≡ ok (plain DEADLINE_REACHED)
  pub no_ticks_end_at_the_next : (next slots 1 (a_sleeper 9 0 ++ ticks 1) (Collect [])).reply ≡ ok (plain OK)
  pub longest_from_0 : (next slots 1 (a_task 9) (Wait top)).reply ≡ ok (plain BLOCKED)
  pub too_long_from_1 : (next slots 1 (a_task 9 ++ ticks 1) (Wait top)).reply ≡ refused 15 1

pub record UrgencyAtTheEdge : Type 0 where
  -- a new task with the deadline of the running one
  pub equal_deadline_does_not_displace : (next slots 1 (a_task 9 ++ (CreateTask 2 9 0 ∷ [])) Running).reply ≡ Number 1
  pub last_deadline_runs_before_task_0 : (next slots 1 (a_task top) Running).reply ≡ Number 1

-- task 0 sends to a mailbox with room for one message
abbrev pub one_sent : List Line
one_sent = CreateMailbox 0 1 1 ∷ Run ∷ SendNoWait 0 byte ∷ []

pub record FullMailbox : Type 0 where
  pub second_displaces_first : (next slots 1 one_sent (SendNoWait 0 byte)).reply ≡ ok (displacing 2 (Some 1))

-- the last message number is the first
pub record LastNumber : Type 0 where
  pub accepted_once : (next slots top (CreateMailbox 0 1 1 ∷ Run ∷ []) (SendNoWait 0 byte)).reply ≡ ok (displacing top None)
  pub then_spent : (next slots top one_sent (SendNoWait 0 byte)).reply ≡ refused 16 0
  -- and the full mailbox keeps its message
  pub nothing_dropped : (next slots top one_sent (SendNoWait 0 byte)).state ≡ at slots top one_sent
  pub still_received : (next slots top (one_sent ++ (SendNoWait 0 byte ∷ [])) (ReceiveNoWait 0 buffer)).reply ≡ ok (bringing top 1)

-- 28 messages of 128 bytes, in two mailboxes, and two more for 48 and 49 bytes
abbrev pub packed_28 : List Line
packed_28 =
    CreateMailbox 0 16 128 ∷ CreateMailbox 1 16 128 ∷ CreateMailbox 2 1 48 ∷ CreateMailbox 3 1 49 ∷ Run
    ∷ (replicate 16 (SendNoWait 0 (bytes 128)) ++ replicate 12 (SendNoWait 1 (bytes 128)))

pub record PackedStore : Type 0 where
  pub used_units : (at packed 0 packed_28).used ≡ 4032
  pub a_message_of_48_fits : (next packed 0 packed_28 (SendNoWait 2 (bytes 48))).reply ≡ ok (displacing 28 None)
  pub a_message_of_49_does_not : (next packed 0 packed_28 (SendNoWait 3 (bytes 49))).reply ≡ store_full 28 65 64

-- 64 messages in four mailboxes, and a fifth
abbrev pub slots_64 : List Line
slots_64 =
    CreateMailbox 0 16 1 ∷ CreateMailbox 1 16 1 ∷ CreateMailbox 2 16 1 ∷ CreateMailbox 3 16 1 ∷ CreateMailbox 4 16 1 ∷ Run
    ∷ (replicate 16 (SendNoWait 0 byte) ++ (replicate 16 (SendNoWait 1 byte) ++ (replicate 16 (SendNoWait 2 byte) ++ replicate 16 (SendNoWait 3 byte))))

pub record SlotStore : Type 0 where
  pub the_65th_is_refused : (next slots 0 slots_64 (SendNoWait 4 byte)).reply ≡ store_full 64 1 0
  pub and_taken_after_one_drop : (next slots 0 (slots_64 ++ (ReceiveNoWait 2 buffer ∷ [])) (SendNoWait 4 byte)).reply ≡ ok (displacing 64 None)

-- task 1, with deadline 20, waits with message 1; task 2 takes it at counter 19 and runs on to 31
abbrev pub taken_at_19 : List Line
taken_at_19 =
    CreateMailbox 0 1 1 ∷ CreateTask 1 20 0 ∷ CreateTask 2 10 0 ∷ Run
    ∷ Wait 5 ∷ SendWait 0 byte ∷ (ticks 5 ++ (Collect [] ∷ (ticks 14 ++ (ReceiveNoWait 0 buffer ∷ (ticks 12 ++ (Terminate ∷ []))))))

-- a sender whose message was taken is told OK, however late it runs
pub record LateSender : Type 0 where
  pub received : (next slots 1 (CreateMailbox 0 1 1 ∷ CreateTask 1 20 0 ∷ CreateTask 2 10 0 ∷ Run ∷ Wait 5 ∷ SendWait 0 byte ∷ (ticks 5 ++ (Collect [] ∷ ticks 14))) (ReceiveNoWait 0 buffer)).reply ≡ ok (bringing 1 1)
  pub counter_is_31 : (next slots 1 taken_at_19 Ticks).reply ≡ Number 31
  pub sender_runs : (next slots 1 taken_at_19 Running).reply ≡ Number 1
  pub told_ok : (next slots 1 taken_at_19 (Collect [])).reply ≡ ok (naming OK 1)

-- task 1 waits for a message, and task 0 sends it one
abbrev pub given : List Line
given = a_receiver_waits ++ (SendNoWait 0 byte ∷ [])

-- the bytes for a waiting receiver stay in the store until it collects them
pub record GivenBytes : Type 0 where
  pub held_when_given : (at slots 1 given).held 1 ≡ Some byte
  pub brought_by_collect : (next slots 1 given (Collect buffer)).reply ≡ ok (bringing 1 1)
  pub buffer_has_them : (next slots 1 given (Collect buffer)).buffer ≡ 9 ∷ 170 ∷ []
  pub gone_when_collected : (next slots 1 given (Collect buffer)).state.held 1 ≡ None

-- set_ticks moves the counter past a wake tick, and wakes nobody; the next tick does
pub record ClockSet : Type 0 where
  pub task_0_runs_on : (next slots 1 (a_sleeper 50 5 ++ (SetTicks 40 ∷ [])) Running).reply ≡ Number 0
  pub wakes_at_the_next_tick : (next slots 1 (a_sleeper 50 5 ++ (SetTicks 40 ∷ [])) Tick).reply ≡ Ticked 1 1

pub record Edges : Type 0 where
  pub receiver_at_its_deadline : ReceiverAtItsDeadline
  pub sleeping : Sleeping
  pub urgency_at_the_edge : UrgencyAtTheEdge
  pub full_mailbox : FullMailbox
  pub last_number : LastNumber
  pub packed_store : PackedStore
  pub slot_store : SlotStore
  pub late_sender : LateSender
  pub given_bytes : GivenBytes
  pub clock_set : ClockSet
