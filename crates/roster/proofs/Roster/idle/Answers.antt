-- The idle task starts in a blank table.
use Rattle.std.proofs.Common.{Some, None, ap₂, ◌∙◌}
use mathlib.Core.Path.{fun_ext}
use Rattle.art.specs.State.{changed}
use Rattle.art.proofs.Changes.{getD_blank}
use Rattle.roster.proofs.Roster.idle.Goals as goal

pub returns-clause-tasks : goal.returns-clause-tasks
returns-clause-tasks c =
    c.insert.ensures.tasks ∙ c.start.ensures.tasks ∙ ap₂ (λ f x. changed f 0 (Some x)) (fun_ext (λ t. getD_blank 64 t None)) c.idle_task.ensures
