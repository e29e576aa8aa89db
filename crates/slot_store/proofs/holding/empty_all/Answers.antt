-- Once as many slots are free as held a message, none holds one.
use Rattle.std.proofs.Common.{ap, ◌∙◌, rules}
use Rattle.std.proofs.lemmas.List.{set-get_or}
use Rattle.slot_store.specs.Slots.{messages}
use Rattle.slot_store.specs.Rows.{emptied}
use Rattle.slot_store.proofs.holding.empty_all.Goals as goal

pub returns-then-left-eq0 : goal.returns-then-left-eq0
returns-then-left-eq0 c = ap messages (set-get_or c.loop-slot.slots c.loop-slot.slot-index c.slot-item.result) ∙ emptied c.loop-slot.slots c.loop-slot.slot-index c.loop-slot.invariant.0 (search rules)
