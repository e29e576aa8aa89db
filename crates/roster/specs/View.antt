-- What a roster holds: the task of each number, and the ready list.
use Rattle.std.specs.Prelude.{ℕ, ◌<◌, List, length, None, Option, slice_index_or}
use Rattle.fixed.specs.Items.{items}
use Rattle.art.specs.declared.task.Task.{Task}
use Rattle.roster.specs.declared.Roster.{Roster}
use Rattle.roster.specs.Places.{ready_count}

-- the task of each number, or nothing where none lives
abbrev pub tasks_in : Roster → ℕ → Option Task
tasks_in r t = slice_index_or r.tasks t None

-- the numbers of the ready list, the running task first
abbrev pub ready_in : Roster → List ℕ
ready_in r = items r.ready

-- a task that is ready has yet to enter the list
abbrev pub HasRoom : Roster → Type 0
HasRoom r = length (ready_in r) < ready_count r.tasks
