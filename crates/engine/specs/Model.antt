-- The state, as the rules see it, that an engine holds.
use Rattle.std.specs.Prelude.{◌≡◌, ℕ, ◌+◌, ◌-◌, min, List, [], ◌∷◌, length, Some, None, Option}
use Rattle.store.specs.declared.Store.{Ghosts as Stores}
use Rattle.art.specs.declared.order.Order.{Ghosts as Orders}
use Rattle.art.specs.declared.task.Due.TheVariants.{Given}
use Rattle.art.specs.declared.task.Message.{Message}
use Rattle.art.specs.State.{Kind, State, running, top, with_counter}
use Rattle.art.specs.Verbs.{accept, mailbox_at, oldest}
use Rattle.art.specs.Rules.{Effect, Reply, Ticked, arrive, collect_rows, collected, displace, number_in, numbers_from, numbers_spent, receive, store_rows, take_rows, unless, visited}
use Rattle.art.specs.Record.{Line, effect}
use Rattle.mailboxes.specs.Meaning.{mailboxes_in}
use Rattle.roster.specs.View.{ready_in, tasks_in}
use Rattle.engine.specs.declared.tables.Engine.{Engine}

-- a store's capacity and costs, and an order
abbrev pub kind_of : {S O : Type 0} → Stores S → Orders O → Kind
kind_of store order = record { capacity = store.capacity; cost = store.cost; before = order.before }

-- the number of the next message; once the last has been used, the one above it
abbrev pub number_next : Option ℕ → ℕ
number_next (Some n) = n
number_next None = top + 1

-- the state that an engine holds: a definition, since the Value of an impl Model can hold no table, as ℕ → Option Task
abbrev pub view : {S O : Type 0} → Stores S → Engine S O → State
view store k =
    record {
      counter = k.tables.counter;
      next = number_next k.tables.next;
      tasks = tasks_in k.tables.roster;
      mailboxes = mailboxes_in k.tables.mailboxes;
      ready = ready_in k.tables.roster;
      held = store.held k.store;
      used = store.used k.store;
      counts = k.tables.counts;
    }

-- a reply, a buffer and a state are those of an effect
pub record Gives (e : Effect) (reply : Reply) (buffer : List ℕ) (s : State) : Type 0 where
  pub answers : reply ≡ e.reply
  pub leaves : buffer ≡ e.buffer
  pub moves : s ≡ e.state

-- a send at a mailbox that takes the message: the store's rows, then what an accepted send does
abbrev pub posted : Kind → State → ℕ → List ℕ → Option ℕ → Option Message → Effect
posted kind s m bytes sender x =
    unless s [] (store_rows kind s bytes x)
    (arrive kind (accept kind (displace kind s m x) bytes) m s.next sender (number_in x) (oldest (mailbox_at s m).receivers))

-- NUMBERS_SPENT first, then the same
abbrev pub numbered : Kind → State → ℕ → List ℕ → Option ℕ → Option Message → Effect
numbered kind s m bytes sender x = unless s [] (numbers_spent s ∷ []) (posted kind s m bytes sender x)

-- a receive that finds a message
abbrev pub taken : Kind → State → ℕ → List ℕ → Message → Effect
taken kind s m buffer x = unless s buffer (take_rows s buffer (Some x)) (receive kind s m buffer (Some x))

-- a collect that brings a message
abbrev pub fetched : Kind → State → List ℕ → ℕ → Effect
fetched kind s buffer n = unless s buffer (collect_rows s buffer (Some (Given n))) (collected kind s buffer (Some (Given n)))

-- a tick that visits tasks 1 to last, and by how much the ready list has grown then
abbrev pub visited_to : Kind → State → ℕ → State
visited_to kind s last = visited kind (with_counter s (min (s.counter + 1) top)) (numbers_from 1 last)

abbrev pub tick_to : Kind → State → ℕ → Effect
tick_to kind s last =
    record { reply = Ticked (length (visited_to kind s last).ready - length s.ready) (running (visited_to kind s last)); state = visited_to kind s last; buffer = [] }

-- an engine does a line of a record: reply, buffer and state after are those that the rules have for it at the state before
abbrev pub Does : {S O : Type 0} → Stores S → Orders O → Line → Engine S O → Reply → List ℕ → Engine S O → Type 0
Does store order line before reply buffer after = Gives (effect (kind_of store order) (view store before) line) reply buffer (view store after)
