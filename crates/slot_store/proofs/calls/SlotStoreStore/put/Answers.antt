-- A put is refused by the first row that holds, or fills the lowest free slot.
use Rattle.std.proofs.Common.{refl, ◌∙◌, arith, rules}
use mathlib.Core.Path.{fun_ext}
use Rattle.store.proofs.Answered.{put_held, put_full, put_ok}
use Rattle.slot_store.specs.Slots.{one_unit}
use Rattle.slot_store.specs.Held.{contents}
use Rattle.slot_store.specs.Rows.{More, more, present, missing, full, bounded}
use Rattle.slot_store.proofs.calls.SlotStoreStore.put.Goals as goal
use Rattle.slot_store.proofs.calls.SlotStoreStore.put.Goals.{After-fill_at}

pub returns-then-is_some-clause-answer : goal.returns-then-is_some-clause-answer
returns-then-is_some-clause-answer c =
    let s = c.args.self.now in
    put_held 64 one_unit (contents s) s.used c.args.number c.args.bytes.now (search rules) (search rules)
    (present c.args.number s.slots c.find.result s.once c.find.ensures c.if-is_some.ensures)

pub returns-in_default-clause-answer : goal.returns-in_default-clause-answer
returns-in_default-clause-answer c =
    let s = c.args.self.now in
    let none = missing c.args.number s.slots c.find.result c.find.ensures c.if-is_some.ensures in
    let all = full s.slots c.in_default.ensures in
    put_full 64 one_unit (contents s) s.used c.args.number c.args.bytes.now (search rules) (search rules)
    (record { wanted = 1; free = 0 }) none (omega (arith, all, s.counted, s.whole)) refl (omega (arith, all, s.counted, s.whole))

pub overflow_add-self : goal.overflow_add-self
overflow_add-self c = let s = c.args.self.now in omega (arith, bounded s.slots, s.counted, s.whole)

-- the slots with the message
filled : (c : After-fill_at) → More c.args.self.now.slots c.fill_at.new.slots c.args.number c.args.bytes.now
filled c =
    let s = c.args.self.now in
    let none = missing c.args.number s.slots c.find.result c.find.ensures c.if-is_some.ensures in
    more s.slots c.fill_at.new.slots c.in-Some.i c.args.number c.args.bytes.now s.once none c.in-Some.ensures c.fill_at.ensures

pub invariant_of-self : goal.invariant_of-self
invariant_of-self c =
    let s = c.args.self.now in
    let m = filled c in
    record { whole = m.long ∙ s.whole; once = m.once; counted = omega (arith, m.count, s.counted) }

pub returns : goal.returns
returns c =
    let s = c.args.self.now in
    let none = missing c.args.number s.slots c.find.result c.find.ensures c.if-is_some.ensures in
    let m = filled (goal.at.returns c).After-fill_at in
    record {
      answer = put_ok 64 one_unit (contents s) s.used c.args.number c.args.bytes.now (search rules) (search rules) none
          (omega (arith, bounded c.fill_at.new.slots, m.count, m.long, s.counted, s.whole));
      holds = fun_ext m.next;
      counts = refl;
      takes = record { place = c.in-Some.i; lowest = c.in-Some.ensures; fills = c.fill_at.ensures };
    }
