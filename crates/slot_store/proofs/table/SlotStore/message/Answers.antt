-- The slot that was found has the bytes.
use Rattle.std.proofs.Common.{rules, ◌∙◌, arith}
use Rattle.std.proofs.lemmas.Grind.{common_steps}
use Rattle.slot_store.specs.Rows.{absent, at_number, there}
use Rattle.slot_store.proofs.table.SlotStore.message.Goals as goal

pub returns-in_err-i : goal.returns-in_err-i
returns-in_err-i c = let none = absent c.args.number c.args.self.now.slots c.in_err-i.ensures in search rules

pub returns : goal.returns
returns c =
    let s = c.args.self.now in
    let x = at_number s.slots c.in_ok-i.i c.args.number c.index-self-i.result c.in_ok-i.ensures in
    let held = there s.slots c.in_ok-i.i c.args.number c.index-self-i.result s.once c.in_ok-i.ensures in
    let same = c.as_ref.ensures.value ∙ x.is in
    grind (arith, common_steps)
