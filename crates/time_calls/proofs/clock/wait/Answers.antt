use Rattle.std.proofs.Common.{[], ◌∷◌}
use Rattle.art.specs.Rules.{answer_due, idle_calls}
use Rattle.engine.specs.Model.{view}
use Rattle.engine.proofs.Refused.{refused}
use Rattle.time_calls.proofs.clock.wait.Goals as goal

pub returns-in_err-task : goal.returns-in_err-task
returns-in_err-task g c =
    let s = view g.S.Store c.args.engine.now in
    refused s [] (answer_due s ∷ idle_calls s ∷ []) _ _ _ _ c.in_err-task.ensures c.from_residual.ensures.1
