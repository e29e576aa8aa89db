-- The slots passed so far hold nothing, and `left` is how many of those behind them hold a message.
use Rattle.std.proofs.Common.{◌≡◌, [], take, drop}
use Rattle.store.specs.Listing.{total}
use Rattle.slot_store.specs.Slots.{messages, one_unit}
use Rattle.slot_store.proofs.holding.empty_all.Given as goal

abbrev pub invariant-loop-slot : goal.invariant-loop-slot
invariant-loop-slot l = (messages (take l.slot-index l.slots) ≡ []) × (l.left ≡ total one_unit (messages (drop l.slot-index l.slots)))
