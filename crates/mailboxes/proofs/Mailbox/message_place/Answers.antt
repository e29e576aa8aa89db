-- The first with number n is the one that leaves the queue.
use Rattle.std.proofs.Common.{◌≡◌, eqb, sym, subst, rules, tests}
use Rattle.std.specs.List.{position}
use Rattle.std.proofs.lemmas.Iterator.{YieldsList-from_slice}
use Rattle.std.proofs.lemmas.Iterator.Search.{position_from_yields_List}
use Rattle.fixed.specs.Items.{items}
use Rattle.art.specs.Verbs.{unqueued}
use Rattle.mailboxes.specs.Meaning.{Gap}
use Rattle.mailboxes.proofs.Places.{message_at}
use Rattle.mailboxes.proofs.Mailbox.message_place.Goals as goal

pub returns : goal.returns
returns c =
    let n = c.args.n in
    let xs = items c.args.self.now.messages in
    let found : c.position.result ≡ position (λ x. eqb x.number n) xs =
    position_from_yields_List (λ x. eqb x.number n) _ _ c.position.result c.position.ensures.ran (YieldsList-from_slice xs cc) (λ x b q k. search (rules, tests)) in
    subst (Gap xs (unqueued n xs)) (sym found) (message_at n xs)
