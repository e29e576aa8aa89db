-- What each call answers and what it leaves: first the rows by which it is refused, then what an accepted call does.
use Rattle.std.specs.Prelude.{ℕ, zero, suc, ◌+◌, ◌-◌, min, Bool, true, false, cond, not, ◌&&◌, ◌||◌, List, [], ◌∷◌, ◌++◌, length, is_some, Some, None, Ok, Err, Option, Result, ◌==◌, nat_le, nat_lt}
use Rattle.store.specs.declared.fault.Layer.TheVariants.{Kernel as KERNEL, Mailbox as MAILBOX}
use Rattle.store.specs.Meaning.{bytes_in, units_in, put_rows, copy_rows, discard_rows}
use Rattle.store.specs.Refusal.{Told, Row, row}
use Rattle.answers.specs.declared.answer.Answer.{Answer}
use Rattle.answers.specs.declared.answer.Counts.{Counts}
use Rattle.answers.specs.declared.answer.Status.{Status}
use Rattle.answers.specs.declared.answer.Status.TheVariants.{Ok as OK, Blocked as BLOCKED}
use Rattle.answers.specs.Counts.{count_handed_over, count_displaced}
use Rattle.art.specs.declared.task.Activity.{Activity}
use Rattle.art.specs.declared.task.Activity.TheVariants.{Ready, Receiving, Sending, Asleep}
use Rattle.art.specs.declared.task.Due.{Due}
use Rattle.art.specs.declared.task.Due.TheVariants.{Sent, Given, Plain}
use Rattle.art.specs.declared.task.Event.TheVariants.{HandOver, Withdrawal, Tick}
use Rattle.art.specs.declared.task.Message.{Message}
use Rattle.art.specs.declared.task.Task.{Task}
use Rattle.art.specs.State.{Kind, State, top, last_task, running, with_counter, with_task, with_mailbox, with_ready, with_counts}
use Rattle.art.specs.Verbs.{due_of, with_deadline, removed, block, settle, enter, wake, mailbox_at, edit_mailbox, oldest, queue, join_receivers, leave_oldest, leave_receivers, is_empty, fills, other_mode, accept, release, written, take_out, withdraw, wake_sender, choose}

-- what a line answers: a call's answer or refusal, a number, what a tick did, the counts, or nothing
pub data Reply : Type 0 where
  Answered : Result Answer Told → Reply
  Number : ℕ → Reply
  -- how many tasks were readied, and who runs
  Ticked : ℕ → ℕ → Reply
  Counted : Counts → Reply
  Silent : Reply

-- what a line answers, the state that it leaves, and what the buffer that was lent to it holds then
pub record Effect : Type 0 where
  pub reply : Reply
  pub state : State
  pub buffer : List ℕ

-- an accepted call
abbrev pub accepted : Answer → State → List ℕ → Effect
accepted a s buffer = record { reply = Answered (Ok a); state = s; buffer = buffer }

-- rows are tried from the top: the first that holds refuses the call, which then changes nothing
abbrev pub unless : State → List ℕ → List Row → Effect → Effect
unless s buffer [] rest = rest
unless s buffer (r ∷ rows) rest =
    cond r.holds (record { reply = Answered (Err r.tells); state = s; buffer = buffer }) (unless s buffer rows rest)

-- the forms of an answer: a status alone; with the message sent; with a message displaced; with a message brought
abbrev pub plain : Status → Answer
plain st = record { status = st; message = None; length = None; displaced = None }

abbrev pub naming : Status → ℕ → Answer
naming st n = record { status = st; message = Some n; length = None; displaced = None }

abbrev pub displacing : ℕ → Option ℕ → Answer
displacing n d = record { status = OK; message = Some n; length = None; displaced = d }

abbrev pub bringing : ℕ → ℕ → Answer
bringing n l = record { status = OK; message = Some n; length = Some l; displaced = None }

-- Rows that several calls have

-- 1 ANSWER_DUE
abbrev pub answer_due : State → Row
answer_due s = row 1 KERNEL (running s) (is_some (due_of (s.tasks (running s))))

-- 3 IDLE_TASK
abbrev pub idle_calls : State → Row
idle_calls s = row 3 KERNEL (running s) (running s == 0)

-- 4 BAD_NUMBER, of a mailbox
abbrev pub bad_mailbox : ℕ → Row
bad_mailbox m = row 4 KERNEL m (nat_lt 31 m)

-- 8 NO_MAILBOX
abbrev pub no_mailbox : State → ℕ → Row
no_mailbox s m = row 8 MAILBOX m (not (is_some (s.mailboxes m)))

-- 10 WRONG_SIZE
abbrev pub wrong_size : State → ℕ → List ℕ → Row
wrong_size s m bytes = row 10 MAILBOX m (not (length bytes == (mailbox_at s m).size))

-- 11 SHORT_BUFFER, of a receive
abbrev pub short_buffer : State → ℕ → List ℕ → Row
short_buffer s m buffer = row 11 MAILBOX m (nat_lt (length buffer) (mailbox_at s m).size)

-- 12 MIXED
abbrev pub mixed : State → ℕ → Bool → Row
mixed s m waiting = row 12 MAILBOX m (other_mode waiting (oldest (mailbox_at s m).messages))

-- 16 NUMBERS_SPENT
abbrev pub numbers_spent : State → Row
numbers_spent s = row 16 KERNEL (running s) (nat_lt top s.next)

-- Tasks come and go

-- create_task: number, deadline, level
abbrev pub create_task_rows : State → ℕ → ℕ → List Row
create_task_rows s t l =
    answer_due s
    ∷ row 4 KERNEL t (t == 0 || nat_lt last_task t)
    ∷ row 5 KERNEL t (nat_lt 31 l)
    ∷ row 7 KERNEL t (is_some (s.tasks t))
    ∷ []

abbrev pub create_task : Kind → State → ℕ → ℕ → ℕ → Effect
create_task kind s t d l =
    unless s [] (create_task_rows s t l)
    (accepted (plain OK) (enter kind (with_task s t (Some (record { urgency = record { deadline = d; level = l }; activity = Ready; due = None }))) t) [])

-- terminate
abbrev pub terminate_rows : State → List Row
terminate_rows s = answer_due s ∷ idle_calls s ∷ []

abbrev pub terminate : State → Effect
terminate s =
    unless s [] (terminate_rows s)
    (accepted (plain OK) (with_ready (with_task s (running s) None) (removed (running s) s.ready)) [])

-- Mailboxes come and go

-- create_mailbox: number, capacity, size
abbrev pub create_mailbox_rows : State → ℕ → ℕ → ℕ → List Row
create_mailbox_rows s m c z =
    answer_due s
    ∷ bad_mailbox m
    ∷ row 6 KERNEL m ((c == 0 || nat_lt 16 c) || (z == 0 || nat_lt 128 z))
    ∷ row 7 KERNEL m (is_some (s.mailboxes m))
    ∷ []

abbrev pub create_mailbox : State → ℕ → ℕ → ℕ → Effect
create_mailbox s m c z =
    unless s [] (create_mailbox_rows s m c z)
    (accepted (plain OK) (with_mailbox s m (Some (record { capacity = c; size = z; messages = []; receivers = [] }))) [])

-- remove_mailbox
abbrev pub remove_mailbox_rows : State → ℕ → List Row
remove_mailbox_rows s m =
    answer_due s
    ∷ bad_mailbox m
    ∷ no_mailbox s m
    ∷ row 9 MAILBOX m (not (is_empty (mailbox_at s m).messages && is_empty (mailbox_at s m).receivers))
    ∷ []

abbrev pub remove_mailbox : State → ℕ → Effect
remove_mailbox s m = unless s [] (remove_mailbox_rows s m) (accepted (plain OK) (with_mailbox s m None) [])

-- Sends

-- an accepted message goes to the oldest receiver, if there is one, or to the end of the queue, where its sender may wait
abbrev pub arrive : Kind → State → ℕ → ℕ → Option ℕ → Option ℕ → Option ℕ → Effect
arrive kind s m n sender d (Some r) =
    accepted (displacing n d) (wake kind (with_counts (edit_mailbox s m leave_oldest) (count_handed_over s.counts)) r (HandOver n)) []
arrive kind s m n (Some t) d None =
    accepted (naming BLOCKED n) (block (edit_mailbox s m (queue (record { number = n; sender = Some t }))) (Sending m n)) []
arrive kind s m n None d None = accepted (displacing n d) (edit_mailbox s m (queue (record { number = n; sender = None }))) []

-- the store's own rows: room for the bytes, with the units of a displaced message, which has to be held, free again
abbrev pub store_rows : Kind → State → List ℕ → Option Message → List Row
store_rows kind s bytes None = put_rows kind.capacity kind.cost s.held s.used s.next bytes
store_rows kind s bytes (Some x) =
    discard_rows s.held x.number
    ++ put_rows kind.capacity kind.cost s.held (s.used - units_in kind.cost (s.held x.number)) s.next bytes

-- send_wait: mailbox, bytes
abbrev pub send_wait_rows : Kind → State → ℕ → List ℕ → List Row
send_wait_rows kind s m bytes =
    answer_due s
    ∷ idle_calls s
    ∷ bad_mailbox m
    ∷ no_mailbox s m
    ∷ wrong_size s m bytes
    ∷ mixed s m true
    ∷ row 14 MAILBOX m (fills (mailbox_at s m) (mailbox_at s m).messages)
    ∷ numbers_spent s
    ∷ store_rows kind s bytes None

abbrev pub send_wait : Kind → State → ℕ → List ℕ → Effect
send_wait kind s m bytes =
    unless s [] (send_wait_rows kind s m bytes)
    (arrive kind (accept kind s bytes) m s.next (Some (running s)) None (oldest (mailbox_at s m).receivers))

-- the message that a send displaces: the oldest where messages fill the mailbox
abbrev pub displaced_at : State → ℕ → Option Message
displaced_at s m = cond (fills (mailbox_at s m) (mailbox_at s m).messages) (oldest (mailbox_at s m).messages) None

-- the state without it
abbrev pub displace : Kind → State → ℕ → Option Message → State
displace kind s m None = s
displace kind s m (Some x) = take_out kind s m x count_displaced

-- its number
abbrev pub number_in : Option Message → Option ℕ
number_in None = None
number_in (Some x) = Some x.number

-- send_no_wait: mailbox, bytes
abbrev pub send_no_wait_rows : Kind → State → ℕ → List ℕ → List Row
send_no_wait_rows kind s m bytes =
    answer_due s
    ∷ bad_mailbox m
    ∷ no_mailbox s m
    ∷ wrong_size s m bytes
    ∷ mixed s m false
    ∷ numbers_spent s
    ∷ store_rows kind s bytes (displaced_at s m)

abbrev pub send_no_wait : Kind → State → ℕ → List ℕ → Effect
send_no_wait kind s m bytes =
    unless s [] (send_no_wait_rows kind s m bytes)
    (arrive kind (accept kind (displace kind s m (displaced_at s m)) bytes) m s.next None (number_in (displaced_at s m)) (oldest (mailbox_at s m).receivers))

-- Receives

-- what the taking of the oldest message asks of the store
abbrev pub take_rows : State → List ℕ → Option Message → List Row
take_rows s buffer None = []
take_rows s buffer (Some x) = copy_rows s.held x.number buffer

-- the oldest message is handed over, its bytes in the buffer; with none the task waits
abbrev pub receive : Kind → State → ℕ → List ℕ → Option Message → Effect
receive kind s m buffer (Some x) =
    accepted (bringing x.number (length (bytes_in (s.held x.number)))) (wake_sender kind (take_out kind s m x count_handed_over) x x.sender) (written s x.number buffer)
receive kind s m buffer None =
    accepted (plain BLOCKED) (block (edit_mailbox s m (join_receivers (running s))) (Receiving m)) buffer

-- receive_wait: mailbox, buffer
abbrev pub receive_wait_rows : State → ℕ → List ℕ → List Row
receive_wait_rows s m buffer =
    answer_due s
    ∷ idle_calls s
    ∷ bad_mailbox m
    ∷ no_mailbox s m
    ∷ short_buffer s m buffer
    ∷ row 14 MAILBOX m (fills (mailbox_at s m) (mailbox_at s m).receivers)
    ∷ take_rows s buffer (oldest (mailbox_at s m).messages)

abbrev pub receive_wait : Kind → State → ℕ → List ℕ → Effect
receive_wait kind s m buffer =
    unless s buffer (receive_wait_rows s m buffer) (receive kind s m buffer (oldest (mailbox_at s m).messages))

-- receive_no_wait: mailbox, buffer
abbrev pub receive_no_wait_rows : State → ℕ → List ℕ → List Row
receive_no_wait_rows s m buffer =
    answer_due s
    ∷ bad_mailbox m
    ∷ no_mailbox s m
    ∷ short_buffer s m buffer
    ∷ row 13 MAILBOX m (is_empty (mailbox_at s m).messages)
    ∷ take_rows s buffer (oldest (mailbox_at s m).messages)

abbrev pub receive_no_wait : Kind → State → ℕ → List ℕ → Effect
receive_no_wait kind s m buffer =
    unless s buffer (receive_no_wait_rows s m buffer) (receive kind s m buffer (oldest (mailbox_at s m).messages))

-- Time

-- wait: ticks
abbrev pub wait_rows : State → ℕ → List Row
wait_rows s n = answer_due s ∷ idle_calls s ∷ row 15 KERNEL (running s) (nat_lt top (s.counter + n)) ∷ []

abbrev pub wait : State → ℕ → Effect
wait s n = unless s [] (wait_rows s n) (accepted (plain BLOCKED) (block s (Asleep (s.counter + n))) [])

-- set_deadline
abbrev pub set_deadline_rows : State → List Row
set_deadline_rows s = answer_due s ∷ idle_calls s ∷ []

-- the running task leaves the ready list, and enters it again with its new deadline
abbrev pub after_set_deadline : Kind → State → ℕ → State
after_set_deadline kind s d =
    enter kind (with_ready (with_task s (running s) (with_deadline d (s.tasks (running s)))) (removed (running s) s.ready)) (running s)

abbrev pub set_deadline : Kind → State → ℕ → Effect
set_deadline kind s d = unless s [] (set_deadline_rows s) (accepted (plain OK) (after_set_deadline kind s d) [])

-- set_ticks: the counter alone changes
abbrev pub set_ticks : State → ℕ → Effect
set_ticks s n = unless s [] (answer_due s ∷ []) (accepted (plain OK) (with_counter s n) [])

-- what a tick does to one task, by what the task does
abbrev pub ticked : Kind → State → ℕ → ℕ → Activity → State
ticked kind s t d Ready = s
ticked kind s t d (Receiving m) = choose (nat_le d s.counter) (wake kind (edit_mailbox s m (leave_receivers t)) t Withdrawal) s
ticked kind s t d (Sending m n) =
    choose (nat_le d s.counter) (wake kind (withdraw kind s m n) t Withdrawal) s
ticked kind s t d (Asleep until) = wake kind s t (Tick s.counter)

-- the same where such a task lives
abbrev pub tick_task : Kind → State → ℕ → Option Task → State
tick_task kind s t None = s
tick_task kind s t (Some x) = ticked kind s t x.urgency.deadline x.activity

-- tasks are visited one after another
abbrev pub visited : Kind → State → List ℕ → State
visited kind s [] = s
visited kind s (t ∷ ts) = visited kind (tick_task kind s t (s.tasks t)) ts

-- the numbers from n on, k of them
abbrev pub numbers_from : ℕ → ℕ → List ℕ
numbers_from n zero = []
numbers_from n (suc k) = n ∷ numbers_from (n + 1) k

-- the counter rises by 1, up to TOP, and every task is visited by rising number
abbrev pub after_tick : Kind → State → State
after_tick kind s = visited kind (with_counter s (min (s.counter + 1) top)) (numbers_from 1 last_task)

-- as many were readied as the ready list has grown by
abbrev pub tick : Kind → State → Effect
tick kind s =
    record { reply = Ticked (length (after_tick kind s).ready - length s.ready) (running (after_tick kind s)); state = after_tick kind s; buffer = [] }

-- The answer due

-- 2 NOTHING_DUE; 11 SHORT_BUFFER, where a message is due that the buffer is too short for
abbrev pub collect_rows : State → List ℕ → Option Due → List Row
collect_rows s buffer None = row 2 KERNEL (running s) true ∷ []
collect_rows s buffer (Some (Sent st n)) = []
collect_rows s buffer (Some (Plain st)) = []
collect_rows s buffer (Some (Given n)) =
    row 11 KERNEL (running s) (nat_lt (length buffer) (length (bytes_in (s.held n)))) ∷ copy_rows s.held n buffer

-- an accepted collect, by what is due
abbrev pub collected : Kind → State → List ℕ → Option Due → Effect
collected kind s buffer None = accepted (plain OK) s buffer
collected kind s buffer (Some (Sent st n)) = accepted (naming st n) (settle s) buffer
collected kind s buffer (Some (Plain st)) = accepted (plain st) (settle s) buffer
collected kind s buffer (Some (Given n)) =
    accepted (bringing n (length (bytes_in (s.held n)))) (settle (release kind s n)) (written s n buffer)

abbrev pub collect : Kind → State → List ℕ → Effect
collect kind s buffer =
    unless s buffer (collect_rows s buffer (due_of (s.tasks (running s)))) (collected kind s buffer (due_of (s.tasks (running s))))
