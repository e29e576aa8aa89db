use Rattle.std.proofs.Common.{[], ◌∷◌}
use Rattle.art.specs.Rules.{bad_mailbox, mixed, no_mailbox, wrong_size}
use Rattle.engine.specs.Model.{view}
use Rattle.engine.proofs.Refused.{refused_first}
use Rattle.message_calls.proofs.sends.open_to.Goals as goal

pub returns-in_err-row : goal.returns-in_err-row
returns-in_err-row g c =
    let s = view g.S.Store c.args.engine.now in
    let m = c.args.mailbox in
    refused_first _ (bad_mailbox m ∷ no_mailbox s m ∷ []) (wrong_size s m c.args.bytes.now ∷ mixed s m c.args.waiting ∷ []) _ _ _ c.in_err-row.ensures.value c.from_residual.ensures.1
