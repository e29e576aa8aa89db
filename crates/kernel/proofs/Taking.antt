-- A kernel that does what the rules say for a line takes it, and every record is lawful.
use Rattle.std.specs.Prelude.{List, [], ◌∷◌, ℕ}
use Rattle.std.proofs.Common.{sym, ap, ◌∙◌}
use Rattle.store.specs.declared.Store.{Ghosts as Stores}
use Rattle.art.specs.declared.order.Order.{Ghosts as Orders}
use Rattle.art.specs.State.{OrderRules, State}
use Rattle.art.specs.Rules.{Reply}
use Rattle.art.specs.Record.{Line, effect}
use Rattle.law.proofs.Lawful.{lawful}
use Rattle.engine.specs.declared.tables.Engine.{Engine}
use Rattle.engine.specs.Model.{Does, kind_of}
use Rattle.kernel.specs.Takes.{LawfulFromTheStart, LawfulWith, Takes}

pub takes : {S O : Type 0} (store : Stores S) (order : Orders O) (line : Line) (before : Engine S O) (reply : Reply) (buffer : List ℕ) (after : Engine S O) → Does store order line before reply buffer after → Takes store order line before reply buffer after
takes store order line before reply buffer after d = record {
  does = d;
  follows = λ n r q. ap (λ (z : State). (effect (kind_of store order) z line).state) q ∙ sym d.moves;
}

module _ {S O : Type 0} (store : Stores S) (order : Orders O) (rules : OrderRules order.before) where
  pub lawful_from_the_start : (n : ℕ) → LawfulFromTheStart store order n
  lawful_from_the_start n = lawful (kind_of store order) rules n []

  pub lawful_with : (line : Line) (before : Engine S O) → LawfulWith store order line before
  lawful_with line before n r q = lawful (kind_of store order) rules n (line ∷ r)
