-- The place of a task is its number, and the list stays covered.
use Rattle.std.proofs.Common.{◌≡◌, ℕ, ◌≤◌, List, get_or, set, length, Option, Some, None, sym, ◌∙◌, subst, ap, IfSome, MatchOption}
use Rattle.std.specs.Fn.{FnOnceReturnsAtMut}
use Rattle.std.proofs.lemmas.List.{length-set}
use Rattle.art.specs.declared.task.Task.{Task}
use Rattle.fixed.specs.Items.{items}
use Rattle.roster.specs.Places.{ready_count}
use Rattle.roster.proofs.Roster.edit.Goals as goal

module _ (R : Task → Task → Type 0) (old new : List (Option Task)) (t : ℕ) where
  long : (o : Option Task) → MatchOption o (new ≡ old) (λ x. (y : Task) × R x y × (new ≡ set old t (Some y))) → length new ≡ length old
  long None is = ap length is
  long (Some x) is = ap length is.2 ∙ length-set old t (Some is.0)

  covers : (n : ℕ) (o : Option Task) → n ≤ ready_count old → IfSome o (λ x. (y : Task) → R x y → n ≤ ready_count (set old t (Some y))) → MatchOption o (new ≡ old) (λ x. (y : Task) × R x y × (new ≡ set old t (Some y))) → n ≤ ready_count new
  covers n None h may is = subst (λ ts. n ≤ ready_count ts) (sym is) h
  covers n (Some x) h may is = subst (λ ts. n ≤ ready_count ts) (sym is.2) (may is.0 is.1)

pub returns-clause-table : goal.returns-clause-table
returns-clause-table g c = rw c.from.ensures at c.edit.ensures

pub invariant_of-self : goal.invariant_of-self
invariant_of-self g c =
    let s = c.args.self.now in
    let R : Task → Task → Type 0 = λ x y. FnOnceReturnsAtMut g.F.FnOnce c.args.change x tt y in
    let is = rw c.from.ensures at c.edit.ensures in
    record {
      whole = long R s.tasks _ c.args.t (get_or s.tasks c.args.t None) is ∙ s.whole;
      covered = covers R s.tasks _ c.args.t (length (items s.ready)) (get_or s.tasks c.args.t None) s.covered c.requires.covered is;
    }
