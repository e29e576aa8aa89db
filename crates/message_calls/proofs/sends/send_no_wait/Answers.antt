use Rattle.std.proofs.Common.{false, [], ◌∷◌, Some, None}
use Rattle.art.specs.Rules.{answer_due, bad_mailbox, mixed, no_mailbox, wrong_size}
use Rattle.mailboxes.specs.Meaning.{meaning}
use Rattle.engine.specs.Model.{kind_of, view}
use Rattle.engine.proofs.Refused.{past, refused}
use Rattle.message_calls.proofs.Sending.{sent_on}
use Rattle.message_calls.proofs.sends.send_no_wait.Goals as goal

pub returns-in_err-open_to : goal.returns-in_err-open_to
returns-in_err-open_to g c =
    let s = view g.S.Store c.args.engine.now in
    let m = c.args.mailbox in
    past s [] (answer_due s ∷ []) _ _ _ _ _ _ c.in_ok-caller.ensures
    (refused s [] (bad_mailbox m ∷ no_mailbox s m ∷ wrong_size s m c.args.bytes.now ∷ mixed s m false ∷ []) _ _ _ _ c.in_err-open_to.ensures c.from_residual-in_err-open_to.ensures.1)

pub returns-in-Some : goal.returns-in-Some
returns-in-Some g c =
    let s = view g.S.Store c.args.engine.now in
    sent_on (kind_of g.S.Store g.O.Order) s c.args.mailbox c.args.bytes.now (meaning c.in_ok-open_to.field-0.now) _ _ _ _ (Some c.in-Some.oldest)
    c.in_ok-caller.ensures c.in_ok-open_to.ensures.0 c.in_ok-open_to.ensures.1 c.in-Some.ensures.value c.post_displacing.ensures

pub returns-in-None : goal.returns-in-None
returns-in-None g c =
    let s = view g.S.Store c.args.engine.now in
    sent_on (kind_of g.S.Store g.O.Order) s c.args.mailbox c.args.bytes.now (meaning c.in_ok-open_to.field-0.now) _ _ _ _ None
    c.in_ok-caller.ensures c.in_ok-open_to.ensures.0 c.in_ok-open_to.ensures.1 c.in-None.ensures.value c.post.ensures
