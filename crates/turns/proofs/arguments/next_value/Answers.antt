use Rattle.std.proofs.Common.{rules, inr}
use Rattle.std.specs.Vec.Iter.{into_iter_items}
use Rattle.turns.specs.Line.{ReadsNone}
use Rattle.turns.proofs.arguments.next_value.Goals as goal

pub returns : goal.returns
returns g c =
    let w = c.in_ok-context.field-0 in
    record {
      ok = (w, rw c.in_ok-context.ensures at c.next.ensures.items, rw c.as_str.ensures.value at c.in_ok-parse.ensures.value);
      err = search rules;
    }

pub returns-in_err-parse : goal.returns-in_err-parse
returns-in_err-parse g c =
    let w = c.in_ok-context.field-0 in
    let h : ReadsNone g.V.FromStr.from_str_gives (into_iter_items c.args.words.now) =
    inr (w, into_iter_items c.next.new.self, c.in_err-parse.field-0.0, rw c.in_ok-context.ensures at c.next.ensures.items, rw c.as_str.ensures.value at c.in_err-parse.ensures.value)
    in
    search rules
