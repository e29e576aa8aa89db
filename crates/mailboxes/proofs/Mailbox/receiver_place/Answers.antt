-- The first t is the one that leaves the receivers.
use Rattle.std.proofs.Common.{◌≡◌, eqb, sym, subst, rules, tests}
use Rattle.std.specs.List.{position}
use Rattle.std.proofs.lemmas.Iterator.{YieldsList-from_slice}
use Rattle.std.proofs.lemmas.Iterator.Search.{position_from_yields_List}
use Rattle.fixed.specs.Items.{items}
use Rattle.art.specs.Verbs.{removed}
use Rattle.mailboxes.specs.Meaning.{Gap}
use Rattle.mailboxes.proofs.Places.{receiver_at}
use Rattle.mailboxes.proofs.Mailbox.receiver_place.Goals as goal

pub returns : goal.returns
returns c =
    let t = c.args.t in
    let us = items c.args.self.now.receivers in
    let found : c.position.result ≡ position (λ u. eqb u t) us =
    position_from_yields_List (λ u. eqb u t) _ _ c.position.result c.position.ensures.ran (YieldsList-from_slice us cc) (λ x b q k. search (rules, tests)) in
    subst (Gap us (removed t us)) (sym found) (receiver_at t us)
