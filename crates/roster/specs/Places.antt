-- Which tasks are ready, and how many of a table of tasks.
use Rattle.std.specs.Prelude.{ℕ, ◌+◌, Bool, true, false, cond, List, [], ◌∷◌, Some, None, Option}
use Rattle.art.specs.declared.task.Activity.{Activity}
use Rattle.art.specs.declared.task.Activity.TheVariants.{Ready, Receiving, Sending, Asleep}
use Rattle.art.specs.declared.task.Task.{Task}

-- what a task does is to stand in the ready list
abbrev pub is_ready : Activity → Bool
is_ready Ready = true
is_ready (Receiving m) = false
is_ready (Sending m n) = false
is_ready (Asleep until) = false

-- a place has a task that is ready
abbrev pub stands_ready : Option Task → Bool
stands_ready None = false
stands_ready (Some x) = is_ready x.activity

-- how many tasks of a table are ready
abbrev pub ready_count : List (Option Task) → ℕ
ready_count [] = 0
ready_count (x ∷ xs) = cond (stands_ready x) 1 0 + ready_count xs
