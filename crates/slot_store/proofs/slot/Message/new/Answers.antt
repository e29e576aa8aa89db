-- The message stands at the front of the slot's bytes.
use Rattle.std.proofs.Common.{length, take, refl, ap, ◌∙◌, replicate, arith}
use Rattle.std.proofs.lemmas.List.{take_at}
use Rattle.store.proofs.Copied.{front_whole}
use Rattle.slot_store.proofs.slot.Message.new.Goals as goal

pub returns-clause-holds : goal.returns-clause-holds
returns-clause-holds c =
    let message = c.args.message.now in
    ap (take (length message)) (c.copy_front.ensures ∙ front_whole (replicate 128 0) message (omega (arith, c.requires.short)))
    ∙ take_at message _ (length message) refl
