-- Orders of urgency, and the state of a kernel by what the subject names.
use Rattle.std.specs.Prelude.{◌≡◌, ℕ, Bool, true, false, cond, List, [], ◌∷◌, Some, None, Option, ◌==◌, nat_lt}
use Rattle.store.specs.Meaning.{Contents, nothing}
use Rattle.answers.specs.declared.answer.Counts.{Counts}
use Rattle.answers.specs.Counts.{no_message}
use Rattle.art.specs.declared.task.Activity.TheVariants.{Ready}
use Rattle.art.specs.declared.task.Message.{Message}
use Rattle.art.specs.declared.task.Task.{Task}
use Rattle.art.specs.declared.task.Urgency.{Urgency}

-- Orders of urgency: what each keeps, and the two that there are.

-- neither of two goes before the other
pub record Level (before : Urgency → Urgency → Bool) (a b : Urgency) : Type 0 where
  pub forth : before a b ≡ false
  pub back : before b a ≡ false

pub record OrderRules (before : Urgency → Urgency → Bool) : Type 0 where
  -- none goes before itself
  pub irreflexive : (a : Urgency) → before a a ≡ false
  pub transitive : (a b c : Urgency) → before a b ≡ true → before b c ≡ true → before a c ≡ true
  -- level with one another is transitive too
  pub levels : (a b c : Urgency) → Level before a b → Level before b c → Level before a c

-- the smaller deadline goes before
abbrev pub by_deadline : Urgency → Urgency → Bool
by_deadline a b = nat_lt a.deadline b.deadline

-- the smaller level goes before
abbrev pub by_level : Urgency → Urgency → Bool
by_level a b = nat_lt a.level b.level

-- The state.

-- TOP, the largest 32-bit number
abbrev pub top : ℕ
top = 4294967295

-- tasks besides task 0 have the numbers 1 to 63
abbrev pub last_task : ℕ
last_task = 63

-- what a kernel is made over: a store's capacity and costs, and an order of urgency
pub record Kind : Type 0 where
  pub capacity : ℕ
  pub cost : ℕ → ℕ
  pub before : Urgency → Urgency → Bool

-- queued messages and waiting receivers, oldest first
pub record Mailbox : Type 0 where
  pub capacity : ℕ
  pub size : ℕ
  pub messages : List Message
  pub receivers : List ℕ

pub record State : Type 0 where
  pub counter : ℕ
  -- the number of the next message; above TOP once TOP has been used
  pub next : ℕ
  pub tasks : ℕ → Option Task
  pub mailboxes : ℕ → Option Mailbox
  -- the running task first, task 0 last
  pub ready : List ℕ
  pub held : Contents
  pub used : ℕ
  pub counts : Counts

-- the running task: the first of the ready list
abbrev pub first : List ℕ → ℕ
first [] = 0
first (t ∷ _) = t

abbrev pub running : State → ℕ
running s = first s.ready

-- a table with one place changed
abbrev pub changed : {A : Type 0} → (ℕ → A) → ℕ → A → ℕ → A
changed table n x m = cond (m == n) x (table m)

-- the state with one part changed
abbrev pub with_counter : State → ℕ → State
with_counter s n = record { counter = n; next = s.next; tasks = s.tasks; mailboxes = s.mailboxes; ready = s.ready; held = s.held; used = s.used; counts = s.counts }

abbrev pub with_next : State → ℕ → State
with_next s n = record { counter = s.counter; next = n; tasks = s.tasks; mailboxes = s.mailboxes; ready = s.ready; held = s.held; used = s.used; counts = s.counts }

abbrev pub with_task : State → ℕ → Option Task → State
with_task s t x = record { counter = s.counter; next = s.next; tasks = changed s.tasks t x; mailboxes = s.mailboxes; ready = s.ready; held = s.held; used = s.used; counts = s.counts }

abbrev pub with_mailbox : State → ℕ → Option Mailbox → State
with_mailbox s m b = record { counter = s.counter; next = s.next; tasks = s.tasks; mailboxes = changed s.mailboxes m b; ready = s.ready; held = s.held; used = s.used; counts = s.counts }

abbrev pub with_ready : State → List ℕ → State
with_ready s ts = record { counter = s.counter; next = s.next; tasks = s.tasks; mailboxes = s.mailboxes; ready = ts; held = s.held; used = s.used; counts = s.counts }

abbrev pub with_store : State → Contents → ℕ → State
with_store s h u = record { counter = s.counter; next = s.next; tasks = s.tasks; mailboxes = s.mailboxes; ready = s.ready; held = h; used = u; counts = s.counts }

abbrev pub with_counts : State → Counts → State
with_counts s c = record { counter = s.counter; next = s.next; tasks = s.tasks; mailboxes = s.mailboxes; ready = s.ready; held = s.held; used = s.used; counts = c }

-- task 0, the idle task: always ready, with the last deadline and level
abbrev pub idle_task : Task
idle_task = record { urgency = record { deadline = top; level = 31 }; activity = Ready; due = None }

-- a kernel as init_kernel gives it: task 0 alone, no mailbox, an empty store
abbrev pub initial : ℕ → State
initial n =
    record { counter = 0; next = n; tasks = changed (λ _. None) 0 (Some idle_task); mailboxes = λ _. None; ready = 0 ∷ []; held = nothing; used = 0; counts = no_message }
