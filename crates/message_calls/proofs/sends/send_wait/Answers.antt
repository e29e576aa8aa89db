use Rattle.std.proofs.Common.{true, [], ◌∷◌, sym, ◌∙◌}
use Rattle.art.specs.Rules.{answer_due, bad_mailbox, idle_calls, mixed, no_mailbox, wrong_size}
use Rattle.mailboxes.specs.Meaning.{meaning}
use Rattle.engine.specs.Model.{kind_of, view}
use Rattle.engine.proofs.Refused.{past, refused}
use Rattle.message_calls.proofs.Sending.{sent_waiting}
use Rattle.message_calls.proofs.sends.send_wait.Goals as goal

pub returns-in_err-task : goal.returns-in_err-task
returns-in_err-task g c =
    let s = view g.S.Store c.args.engine.now in
    refused s [] (answer_due s ∷ idle_calls s ∷ []) _ _ _ _ c.in_err-task.ensures c.from_residual.ensures.1

pub returns-in_err-open_to : goal.returns-in_err-open_to
returns-in_err-open_to g c =
    let s = view g.S.Store c.args.engine.now in
    let m = c.args.mailbox in
    past s [] (answer_due s ∷ idle_calls s ∷ []) _ _ _ _ _ _ c.in_ok-task.ensures
    (refused s [] (bad_mailbox m ∷ no_mailbox s m ∷ wrong_size s m c.args.bytes.now ∷ mixed s m true ∷ []) _ _ _ _ c.in_err-open_to.ensures c.from_residual-in_err-open_to.ensures.1)

pub returns : goal.returns
returns g c =
    let s = view g.S.Store c.args.engine.now in
    sent_waiting (kind_of g.S.Store g.O.Order) s c.args.mailbox c.args.bytes.now (meaning c.in_ok-open_to.field-0.now) _ _ _ _
    c.in_ok-task.ensures c.in_ok-open_to.ensures.0 c.in_ok-open_to.ensures.1 (sym c.messages_fill.ensures.value ∙ c.if-messages_fill.false) c.post_from.ensures
