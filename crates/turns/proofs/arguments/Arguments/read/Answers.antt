use Rattle.std.proofs.Common.{drop, inl, inr, refl, ap, ◌∙◌}
use Rattle.turns.proofs.Skipping.{at_equal, if_err, no_second, says, second_is}
use Rattle.turns.specs.Line.{ReadsKind, ReadsNone}
use Rattle.turns.proofs.arguments.Arguments.read.Goals as goal

pub returns-clause-ok : goal.returns-clause-ok
returns-clause-ok g c =
    says _ _ _ c.args.words c.nth.new.self c.next_value.new.words c.next_value-2.new.words c.next_value-3.new.words _ _ _ _ _ _ c.nth.ensures.ran c.in_ok-kind.ensures (rw c.as_str.ensures.value at c.in_ok-parse.ensures.value) c.in_ok-next_value.ensures.ok c.in_ok-next_value-2.ensures.ok c.in_ok-next_value-3.ensures.ok

pub returns-in_err-next_value-clause-err : goal.returns-in_err-next_value-clause-err
returns-in_err-next_value-clause-err g c =
    let n = rw c.in_ok-kind.ensures at c.nth.ensures.ran in
    let k = second_is c.args.words c.in_ok-kind.kind c.nth.new.self n.0 n.1.0 n.1.1 n.1.2 n.2 in
    if_err _ (inr (inl (rw k.1 c.in_err-next_value.ensures.err)))

pub returns-in_err-next_value-2-clause-err : goal.returns-in_err-next_value-2-clause-err
returns-in_err-next_value-2-clause-err g c =
    let n = rw c.in_ok-kind.ensures at c.nth.ensures.ran in
    let k = second_is c.args.words c.in_ok-kind.kind c.nth.new.self n.0 n.1.0 n.1.1 n.1.2 n.2 in
    let t = c.in_ok-next_value.ensures.ok in
    if_err _ (inr (inr (inl (at_equal (ReadsNone g.N.FromStr.from_str_gives) _ _ (ap (drop 3) k.1 ∙ ap (drop 1) t.1) c.in_err-next_value-2.ensures.err))))

pub returns-in_err-next_value-3-clause-err : goal.returns-in_err-next_value-3-clause-err
returns-in_err-next_value-3-clause-err g c =
    let n = rw c.in_ok-kind.ensures at c.nth.ensures.ran in
    let k = second_is c.args.words c.in_ok-kind.kind c.nth.new.self n.0 n.1.0 n.1.1 n.1.2 n.2 in
    let t = c.in_ok-next_value.ensures.ok in
    let b = c.in_ok-next_value-2.ensures.ok in
    if_err _ (inr (inr (inr (inl (at_equal (ReadsNone (Rattle.std.specs.contracts.prelude.U32FromStr.TheImpl.ghosts).from_str_gives) _ _ (ap (drop 4) k.1 ∙ (ap (drop 2) t.1 ∙ ap (drop 1) b.1)) c.in_err-next_value-3.ensures.err)))))

pub returns-in_err-kind-clause-err : goal.returns-in_err-kind-clause-err
returns-in_err-kind-clause-err g c =
    let n = rw c.in_err-kind.ensures.0 at c.nth.ensures.ran in
    if_err _ (inl (no_second c.args.words c.nth.new.self n.0 n.1.0 n.1.1 n.1.2 n.2))

pub returns-in_err-parse-clause-err : goal.returns-in_err-parse-clause-err
returns-in_err-parse-clause-err g c =
    let n = rw c.in_ok-kind.ensures at c.nth.ensures.ran in
    let k = second_is c.args.words c.in_ok-kind.kind c.nth.new.self n.0 n.1.0 n.1.1 n.1.2 n.2 in
    if_err _ (inr (inr (inr (inr (at_equal (ReadsNone ReadsKind) _ _ (ap (drop 1) k.1) (inr (c.in_ok-kind.kind, _, c.in_err-parse.field-0.0, refl, rw c.as_str.ensures.value at c.in_err-parse.ensures.value)))))))
