-- Listings of what is held: each number that holds bytes once, with its bytes.
use Rattle.std.specs.Prelude.{◌≡◌, ℕ, ◌+◌, Bool, true, cond, not, ◌&&◌, List, [], ◌∷◌, length, is_some, Some, None, ◌==◌}
use Rattle.store.specs.Meaning.{Contents}

-- a message as it is held
pub record Entry : Type 0 where
  pub number : ℕ
  pub bytes : List ℕ

abbrev pub entry : ℕ → List ℕ → Entry
entry n bytes = record { number = n; bytes = bytes }

-- what a list of messages has under a number
abbrev pub lookup : List Entry → Contents
lookup [] n = None
lookup (e ∷ es) n = cond (n == e.number) (Some e.bytes) (lookup es n)

-- no number comes twice
abbrev pub distinct : List Entry → Bool
distinct [] = true
distinct (e ∷ es) = not (is_some (lookup es e.number)) && distinct es

-- a listing of what is held, without repetition: all of it and nothing else
pub record Lists (es : List Entry) (held : Contents) : Type 0 where
  pub once : distinct es ≡ true
  pub same : (n : ℕ) → lookup es n ≡ held n

-- the sum of the costs
abbrev pub total : (ℕ → ℕ) → List Entry → ℕ
total cost [] = 0
total cost (e ∷ es) = cost (length e.bytes) + total cost es
