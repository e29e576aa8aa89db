-- What a store's refusal tells: its number, name, layer and place, and how it is printed.
use Rattle.std.specs.Prelude.{ℕ, Bool, cond, List, [], ◌∷◌, ◌++◌, Some, None, Ok, Err, codes, decimal, Option, Result}
use Rattle.store.specs.declared.fault.Layer.{Layer}
use Rattle.store.specs.declared.fault.Layer.TheVariants.{Kernel, Mailbox, Store}
use Rattle.store.specs.declared.fault.Units.{Units}
use Rattle.store.specs.declared.fault.StoreFault.{StoreFault}
use Rattle.store.specs.declared.fault.StoreFault.TheVariants.{BadLength, Held, NotHeld, StoreFull, Cramped}

-- what a refusal tells; the units wanted and free with STORE_FULL alone
pub record Told : Type 0 where
  pub number : ℕ
  pub layer : Layer
  pub place : ℕ
  pub units : Option Units

-- a row of a table of refusals: what it tells, and whether it holds for the call at hand
pub record Row : Type 0 where
  pub tells : Told
  pub holds : Bool

-- a row as the table has it: number, layer, place, condition
abbrev pub row : ℕ → Layer → ℕ → Bool → Row
row number layer place holds = record { tells = record { number = number; layer = layer; place = place; units = None }; holds = holds }

-- rows are tried from the top: the first that holds refuses, and with none the call is accepted
abbrev pub tried : {A : Type 0} → List Row → A → Result A Told
tried [] accepted = Ok accepted
tried (r ∷ rows) accepted = cond r.holds (Err r.tells) (tried rows accepted)

abbrev pub number_of : StoreFault → ℕ
number_of (BadLength n) = 17
number_of (Held n) = 18
number_of (NotHeld n) = 19
number_of (StoreFull n u) = 20
number_of (Cramped n) = 21

abbrev pub name_of : StoreFault → List ℕ
name_of (BadLength n) = codes "BAD_LENGTH"
name_of (Held n) = codes "HELD"
name_of (NotHeld n) = codes "NOT_HELD"
name_of (StoreFull n u) = codes "STORE_FULL"
name_of (Cramped n) = codes "CRAMPED"

-- a store's refusals come from one layer
abbrev pub layer_of : StoreFault → Layer
layer_of f = Store

-- the message number that the call named
abbrev pub place_of : StoreFault → ℕ
place_of (BadLength n) = n
place_of (Held n) = n
place_of (NotHeld n) = n
place_of (StoreFull n u) = n
place_of (Cramped n) = n

abbrev pub units_of : StoreFault → Option Units
units_of (BadLength n) = None
units_of (Held n) = None
units_of (NotHeld n) = None
units_of (StoreFull n u) = Some u
units_of (Cramped n) = None

abbrev pub told : StoreFault → Told
told f = record { number = number_of f; layer = layer_of f; place = place_of f; units = units_of f }

-- an answer by what it tells
abbrev pub outcome : {A : Type 0} → Result A StoreFault → Result A Told
outcome (Ok x) = Ok x
outcome (Err f) = Err (told f)

abbrev pub layer_text : Layer → List ℕ
layer_text Kernel = codes "kernel"
layer_text Mailbox = codes "mailbox"
layer_text Store = codes "store"

abbrev pub units_text : Option Units → List ℕ
units_text None = []
units_text (Some u) = codes " wanted=" ++ (decimal u.wanted ++ (codes " free=" ++ decimal u.free))

-- refused NUMBER NAME layer=LAYER place=PLACE, then the units where they are told
abbrev pub refusal_text : ℕ → List ℕ → Layer → ℕ → Option Units → List ℕ
refusal_text number name layer place units =
    codes "refused " ++ (decimal number ++ (codes " " ++ (name ++ (codes " layer=" ++ (layer_text layer ++ (codes " place=" ++ (decimal place ++ units_text units)))))))

abbrev pub printed : StoreFault → List ℕ
printed f = refusal_text (number_of f) (name_of f) (layer_of f) (place_of f) (units_of f)
