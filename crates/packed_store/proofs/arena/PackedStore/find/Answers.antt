-- The walk stops at the message that is looked for, or at the end of all messages.
use Rattle.std.proofs.Common.{ℕ, ◌+◌, sym, ◌∙◌, subst, arith}
use Rattle.packed_store.specs.Opened.{opened}
use Rattle.packed_store.proofs.Places.{Walk, within, found_here, walk_on, walk_end}
use Rattle.packed_store.proofs.arena.PackedStore.find.Goals as goal

pub number_at-requires : goal.number_at-requires
number_at-requires c = omega (arith, within (opened c.args.self.now) c.loop-at.invariant c.loop-at-test.true)

pub returns-then-number_at-number : goal.returns-then-number_at-number
returns-then-number_at-number c =
    found_here (opened c.args.self.now) c.loop-at.invariant c.loop-at-test.true (sym c.number_at.ensures ∙ c.if-number_at-number.true)

pub length_at-requires : goal.length_at-requires
length_at-requires c = omega (arith, within (opened c.args.self.now) c.loop-at.invariant c.loop-at-test.true)

pub overflow_add-at : goal.overflow_add-at
overflow_add-at c = omega (arith, within (opened c.args.self.now) c.loop-at.invariant c.loop-at-test.true)

pub overflow_add-at-in-loop-at : goal.overflow_add-at-in-loop-at
overflow_add-at-in-loop-at c = omega (arith, within (opened c.args.self.now) c.loop-at.invariant c.loop-at-test.true)

pub loop-at-preserved : goal.loop-at-preserved
loop-at-preserved c =
    let s = c.args.self.now in
    let on = walk_on (opened s) c.loop-at.invariant c.loop-at-test.true (λ z. c.if-number_at-number.false (c.number_at.ensures ∙ z)) in
    subst (λ (l : ℕ). Walk s.memory s.used c.args.number (c.loop-at.at + (16 + l))) (sym c.length_at.ensures) on

pub returns : goal.returns
returns c = walk_end (opened c.args.self.now) c.loop-at.invariant c.loop-at-test.false
