use Rattle.std.proofs.Common.{[]}
use Rattle.art.specs.Rules.{terminate_rows}
use Rattle.engine.specs.Model.{view}
use Rattle.engine.proofs.Refused.{refused}
use Rattle.task_calls.proofs.tasks.terminate.Goals as goal

pub returns-in_err-busy_caller : goal.returns-in_err-busy_caller
returns-in_err-busy_caller g c =
    let s = view g.S.Store c.args.engine.now in
    refused s [] (terminate_rows s) _ _ _ _ c.in_err-busy_caller.ensures c.from_residual.ensures.1
