-- The header and the bytes behind it are one message more.
use Rattle.std.proofs.Common.{List, ℕ, [], ◌∷◌, ◌++◌, ◌+◌, ◌-◌, length, refl, ap, ◌∙◌, arith}
use Rattle.std.proofs.lemmas.List.Edits.{paste-paste}
use Rattle.std.proofs.lemmas.Slice.{put_mid-paste}
use borrow.Rule.Slice.PartMut.{put_mid}
use lib.Seq.{paste}
use Rattle.store.specs.Listing.{entry, lookup}
use Rattle.packed_store.specs.Layout.{header_of, messages}
use Rattle.packed_store.specs.Inside.{Packs}
use Rattle.packed_store.specs.Opened.{opened}
use Rattle.packed_store.specs.Packing.{messages_are, sealed}
use Rattle.packed_store.proofs.Changing.{more_held, more_packs}
use Rattle.packed_store.proofs.arena.PackedStore.append.Goals as goal
use Rattle.packed_store.proofs.arena.PackedStore.append.Goals.{After-copy_from_slice-2}

-- the memory with the header, and then with the bytes too
abbrev headed : After-copy_from_slice-2 → List ℕ
headed c = let s = c.args.self.now in put_mid s.used (s.used + 16 - s.used) s.memory c.copy_from_slice.new.self

abbrev after : After-copy_from_slice-2 → List ℕ
after c =
    let s = c.args.self.now in
    put_mid (s.used + 16) (s.used + 16 + length c.args.bytes.now - (s.used + 16)) (headed c) c.copy_from_slice-2.new.self

laid_behind : (c : After-copy_from_slice-2) → Packs (after c) (c.args.self.now.used + 16 + length c.args.bytes.now) (messages c.args.self.now.memory c.args.self.now.used ++ entry c.args.number c.args.bytes.now ∷ [])
laid_behind c =
    let s = c.args.self.now in
    let n = c.args.number in
    let bytes = c.args.bytes.now in
    let size = length bytes in
    let header = header_of n size in
    let first = put_mid-paste s.used (s.used + 16 - s.used) s.memory c.copy_from_slice.new.self header 16
    (c.copy_from_slice.ensures.after ∙ c.header.ensures) (omega arith) refl in
    let both = put_mid-paste (s.used + 16) (s.used + 16 + size - (s.used + 16)) (headed c) c.copy_from_slice-2.new.self bytes size
    c.copy_from_slice-2.ensures.after (omega arith) refl
    ∙ ap (λ m. paste m (s.used + 16) bytes size) first ∙ paste-paste s.memory s.used header bytes 16 size refl refl (omega arith) in
    more_packs (opened s) n bytes c.requires.fresh (omega arith) c.requires.allowed (s.used + 16 + size) (omega arith) (omega arith) both

pub invariant_of-self : goal.invariant_of-self
invariant_of-self c =
    let s = sealed (laid_behind c) in
    record { whole = s.whole; room = s.room; packs = s.packs; good = s.good; once = s.once }

pub returns-clause-holds : goal.returns-clause-holds
returns-clause-holds c =
    let before = (goal.at.returns-clause-holds c).After-copy_from_slice-2 in
    ap lookup (messages_are (laid_behind before)) ∙ more_held (opened c.args.self.now) c.args.number c.args.bytes.now c.requires.fresh
