use Rattle.std.proofs.Common.{[], ◌∷◌}
use Rattle.art.specs.Rules.{answer_due, bad_mailbox, no_mailbox}
use Rattle.engine.specs.Model.{view}
use Rattle.engine.proofs.Refused.{past, refused}
use Rattle.task_calls.proofs.boxes.remove_mailbox.Goals as goal

pub returns-in_err-mailbox : goal.returns-in_err-mailbox
returns-in_err-mailbox g c =
    let s = view g.S.Store c.args.engine.now in
    let m = c.args.mailbox in
    past s [] (answer_due s ∷ []) _ _ _ _ _ _ c.in_ok-caller.ensures
    (refused s [] (bad_mailbox m ∷ no_mailbox s m ∷ []) _ _ _ _ c.in_err-mailbox.ensures.value c.from_residual-in_err-mailbox.ensures.1)
