use Rattle.std.proofs.Common.{[]}
use Rattle.art.specs.Rules.{set_deadline_rows}
use Rattle.engine.specs.Model.{view}
use Rattle.engine.proofs.Refused.{refused}
use Rattle.time_calls.proofs.clock.set_deadline.Goals as goal

pub returns-in_err-busy_caller : goal.returns-in_err-busy_caller
returns-in_err-busy_caller g c =
    let s = view g.S.Store c.args.engine.now in
    refused s [] (set_deadline_rows s) _ _ _ _ c.in_err-busy_caller.ensures c.from_residual.ensures.1
