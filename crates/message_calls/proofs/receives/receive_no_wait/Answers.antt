use Rattle.std.proofs.Common.{[], ◌∷◌}
use Rattle.art.specs.Rules.{answer_due, bad_mailbox, no_mailbox}
use Rattle.engine.specs.Model.{view}
use Rattle.engine.proofs.Refused.{past, refused}
use Rattle.message_calls.proofs.receives.receive_no_wait.Goals as goal

pub returns-in_err-row : goal.returns-in_err-row
returns-in_err-row g c =
    let s = view g.S.Store c.args.engine.now in
    let m = c.args.mailbox in
    past s c.args.buffer.now (answer_due s ∷ []) _ _ _ _ _ _ c.in_ok-caller.ensures
    (refused s c.args.buffer.now (bad_mailbox m ∷ no_mailbox s m ∷ []) _ _ _ _ c.in_err-row.ensures.value c.from_residual-in_err-row.ensures.1)
