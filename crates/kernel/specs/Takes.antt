-- What it is for a kernel to take a line of a record.
use Rattle.std.specs.Prelude.{◌≡◌, List, [], ◌∷◌, ℕ}
use Rattle.store.specs.declared.Store.{Ghosts as Stores}
use Rattle.art.specs.declared.order.Order.{Ghosts as Orders}
use Rattle.art.specs.Rules.{Reply}
use Rattle.art.specs.Record.{Line, Record, state}
use Rattle.law.specs.Law.{Lawful}
use Rattle.engine.specs.declared.tables.Engine.{Engine}
use Rattle.engine.specs.Model.{Does, kind_of, view}

pub record Takes {S O : Type 0} (store : Stores S) (order : Orders O) (line : Line) (before : Engine S O) (reply : Reply) (buffer : List ℕ) (after : Engine S O) : Type 0 where
  -- reply, buffer and state after are those of the rules
  pub does : Does store order line before reply buffer after
  -- a record that leads to the state before leads, with this line, to the state after
  pub follows : (n : ℕ) (r : Record) → state (kind_of store order) n r ≡ view store before → state (kind_of store order) n (line ∷ r) ≡ view store after

-- a kernel that has come through no line: the state of the empty record
abbrev pub Begins : {S O : Type 0} → Stores S → Orders O → ℕ → Engine S O → Type 0
Begins store order n e = state (kind_of store order) n [] ≡ view store e

-- every record that leads to the state before is lawful with this line
abbrev pub LawfulWith : {S O : Type 0} → Stores S → Orders O → Line → Engine S O → Type 0
LawfulWith store order line before =
    (n : ℕ) (r : Record) → state (kind_of store order) n r ≡ view store before → Lawful (kind_of store order) n (line ∷ r)

-- the empty record is lawful
abbrev pub LawfulFromTheStart : {S O : Type 0} → Stores S → Orders O → ℕ → Type 0
LawfulFromTheStart store order n = Lawful (kind_of store order) n []
