-- A discard empties the slot that holds the number, and counts one less.
use Rattle.std.proofs.Common.{None, ap, ◌∙◌, arith, rules}
use mathlib.Core.Path.{fun_ext}
use Rattle.store.specs.Meaning.{units_in}
use Rattle.store.proofs.Answered.{discard_ok}
use Rattle.slot_store.specs.Slots.{one_unit}
use Rattle.slot_store.specs.Held.{contents}
use Rattle.slot_store.specs.Rows.{Less, less, absent, there}
use Rattle.slot_store.proofs.calls.SlotStoreStore.discard.Goals as goal
use Rattle.slot_store.proofs.calls.SlotStoreStore.discard.Goals.{After-empty_at}

pub returns-in_default : goal.returns-in_default
returns-in_default c =
    let none = absent c.args.number c.args.self.now.slots c.in_default.ensures in
    search rules

-- the slots without the message
emptied : (c : After-empty_at) → Less c.args.self.now.slots c.empty_at.new.slots c.args.number
emptied c =
    let s = c.args.self.now in
    less s.slots c.empty_at.new.slots c.in-Some.i c.args.number s.once c.in-Some.ensures c.empty_at.ensures

pub overflow_sub-self : goal.overflow_sub-self
overflow_sub-self c = omega (arith, (emptied c).count, c.args.self.now.counted)

pub invariant_of-self : goal.invariant_of-self
invariant_of-self c =
    let s = c.args.self.now in
    let l = emptied c in
    record { whole = l.long ∙ s.whole; once = l.once; counted = omega (arith, l.count, s.counted) }

pub returns : goal.returns
returns c =
    let s = c.args.self.now in
    let n = c.args.number in
    let l = emptied (goal.at.returns c).After-empty_at in
    let is = there s.slots c.in-Some.i n None s.once c.in-Some.ensures in
    record {
      answer = discard_ok (contents s) n _ is;
      holds = fun_ext l.next;
      counts = omega (arith, ap (units_in one_unit) is, l.count, s.counted);
    }
