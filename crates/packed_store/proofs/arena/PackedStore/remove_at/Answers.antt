-- With the gap closed there is one message less.
use Rattle.std.proofs.Common.{◌+◌, ◌-◌, ◌++◌, ap, ◌∙◌}
use borrow.Rule.Slice.PartMut.{put_mid}
use Rattle.store.specs.Listing.{lookup}
use Rattle.packed_store.specs.Inside.{Packs}
use Rattle.packed_store.specs.Opened.{opened}
use Rattle.packed_store.specs.Packing.{messages_are, sealed}
use Rattle.packed_store.proofs.Changing.{less_held, less_packs}
use Rattle.packed_store.proofs.arena.PackedStore.remove_at.Goals as goal
use Rattle.packed_store.proofs.arena.PackedStore.remove_at.Goals.{After-copy_within}

closed : (c : After-copy_within) → Packs (put_mid c.args.at (c.args.self.now.used - c.args.at) c.args.self.now.memory c.copy_within.new.self) (c.args.self.now.used - (16 + c.length_at-size.result)) (c.requires.front ++ c.requires.back)
closed c =
    less_packs (opened c.args.self.now) c.requires (16 + c.length_at-size.result) (ap (λ l. 16 + l) c.length_at-size.ensures) c.copy_within.ensures.after

pub invariant_of-self : goal.invariant_of-self
invariant_of-self c =
    let s = sealed (closed c) in
    record { whole = s.whole; room = s.room; packs = s.packs; good = s.good; once = s.once }

pub returns-clause-holds : goal.returns-clause-holds
returns-clause-holds c =
    let before = (goal.at.returns-clause-holds c).After-copy_within in
    ap lookup (messages_are (closed before)) ∙ less_held (opened c.args.self.now) c.requires
