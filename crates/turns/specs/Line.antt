-- What the words of a command line say.
use Rattle.std.specs.Prelude.{◌≡◌, ℕ, ◌≤◌, ◌⊎◌, List, [], ◌∷◌, length, drop, codes, IfOk, IfErr, Ok, Err, Result, String, string_bytes}
use Rattle.std.specs.declared.alloc.Global.{Global}
use Rattle.turns.specs.declared.arguments.NoSuchStore.{NoSuchStore}
use Rattle.turns.specs.declared.arguments.StoreKind.{StoreKind}
use Rattle.turns.specs.declared.arguments.StoreKind.TheVariants.{Slot, Packed}

-- the word that names a kind of store
abbrev pub kind_text : StoreKind → List ℕ
kind_text Slot = codes "slot"
kind_text Packed = codes "packed"

-- a word was read as the kind of store that it names, or names none
abbrev pub ReadsKind : List ℕ → Result StoreKind NoSuchStore → Type 0
ReadsKind word r = IfOk r (λ kind. word ≡ kind_text kind) × IfErr r (λ _. (kind : StoreKind) → ¬ word ≡ kind_text kind)

-- the first of the words was read as v
abbrev pub ReadsNext : {V E : Type 0} → (List ℕ → Result V E → Type 0) → List (String Global) → List (String Global) → V → Type 0
ReadsNext reads words more v = (w : String Global) × (words ≡ w ∷ more) × reads (string_bytes w) (Ok v)

-- there is no word, or the first cannot be read
abbrev pub ReadsNone : {V E : Type 0} → (List ℕ → Result V E → Type 0) → List (String Global) → Type 0
ReadsNone {V} {E} reads words = (words ≡ []) ⊎ ((w : String Global) × (more : List (String Global)) × (e : E) × (words ≡ w ∷ more) × reads (string_bytes w) (Err e))

-- after the program's name come the words that are read as the kind of store, the turn and the two numbers
pub record Says {T N TE NE UE : Type 0} (reads_turn : List ℕ → Result T TE → Type 0) (reads_beside : List ℕ → Result N NE → Type 0) (reads_turns : List ℕ → Result ℕ UE → Type 0) (words : List (String Global)) (kind : StoreKind) (turn : T) (beside : N) (turns : ℕ) : Type 0 where
  pub program : String Global
  pub kind_word : String Global
  pub turn_word : String Global
  pub beside_word : String Global
  pub turns_word : String Global
  pub more : List (String Global)
  pub line : words ≡ program ∷ kind_word ∷ turn_word ∷ beside_word ∷ turns_word ∷ more
  pub kind_read : ReadsKind (string_bytes kind_word) (Ok kind)
  pub turn_read : reads_turn (string_bytes turn_word) (Ok turn)
  pub beside_read : reads_beside (string_bytes beside_word) (Ok beside)
  pub turns_read : reads_turns (string_bytes turns_word) (Ok turns)

-- a word is missing, or cannot be read
abbrev pub SaysTooLittle : {T N TE NE UE : Type 0} → (List ℕ → Result T TE → Type 0) → (List ℕ → Result N NE → Type 0) → (List ℕ → Result ℕ UE → Type 0) → List (String Global) → Type 0
SaysTooLittle reads_turn reads_beside reads_turns words =
    (length words ≤ 1) ⊎ (ReadsNone reads_turn (drop 2 words) ⊎ (ReadsNone reads_beside (drop 3 words) ⊎ (ReadsNone reads_turns (drop 4 words) ⊎ ReadsNone ReadsKind (drop 1 words))))
