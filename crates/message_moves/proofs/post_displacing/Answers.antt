use Rattle.std.proofs.Common.{◌≡◌, ◌+◌, ◌-◌, length, Ok, sym, ap, ◌∙◌, ap₂}
use Rattle.store.specs.Meaning.{held_after_put, put_answer, units_in, used_after_put, with, without}
use Rattle.engine.specs.Model.{kind_of, view}
use Rattle.message_moves.proofs.Displacing.{outcome_ok, fits, is_next, displaced_state, displacing_gives}
use Rattle.message_moves.proofs.post_displacing.Goals as goal

-- the put that follows the discard is accepted, since it was asked about before
pub returns : goal.returns
returns g c =
    let st = g.S.Store in
    let kind = kind_of st g.O.Order in
    let s = view st c.args.engine.now in
    let bytes = c.args.bytes.now in
    let x = c.args.oldest in
    let n = c.in_ok-message.message in
    let next = is_next s n (sym c.in_ok-message.ensures) in
    let ok = sym c.in_ok-could_displace.ensures in
    let went = c.release.ensures in
    let left = c.release.new.store in
    let fit : put_answer st.capacity st.cost (st.held left) (st.used left) n bytes ≡ Ok tt =
    ap₂ (λ h u. put_answer st.capacity st.cost h u n bytes) went.holds went.counts
    ∙ ap (λ k. put_answer st.capacity st.cost (without s.held x.number) (s.used - units_in st.cost (s.held x.number)) k bytes) next.0
    ∙ fits st.capacity st.cost s.held _ s.next x.number bytes tt ok in
    let done : c.put.result ≡ Ok tt = outcome_ok c.put.result tt (c.put.ensures.answer ∙ fit) in
    let held = c.put.ensures.holds ∙ ap (λ r. held_after_put r (st.held left) n bytes) done ∙ ap (λ h. with h n bytes) went.holds ∙ ap (λ k. with (without s.held x.number) k bytes) next.0 in
    let used = c.put.ensures.counts ∙ ap (λ r. used_after_put st.cost r (st.used left) bytes) done ∙ ap (λ u. u + st.cost (length bytes)) went.counts in
    let mid = displaced_state kind s c.args.mailbox bytes x _ _ _ _ c.unqueue_oldest.ensures.change held used c.displace.ensures in
    displacing_gives kind s c.args.mailbox bytes x _ _ _ n tt next ok mid c.arrive.ensures
