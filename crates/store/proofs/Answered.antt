-- What each call answers, by what holds of it. Assumes nothing.
use Rattle.std.proofs.Common.{◌≡◌, ℕ, ◌+◌, ◌-◌, ◌<◌, ◌≤◌, true, List, length, is_some, Some, None, Ok, Err, arith}
use Rattle.std.proofs.lemmas.Bool.{ne_eqb, lt-ltb, le-ltb}
use Rattle.store.specs.declared.fault.Units.{Units}
use Rattle.store.specs.declared.fault.StoreFault.TheVariants.{Held, StoreFull}
use Rattle.store.specs.Meaning.{Contents, put_answer, discard_answer}
use Rattle.store.specs.Refusal.{told}

-- put, of a length that is allowed
module _ (capacity : ℕ) (cost : ℕ → ℕ) (h : Contents) (used n : ℕ) (bytes : List ℕ) (some : 0 < length bytes) (short : length bytes ≤ 128) where
  pub put_held : is_some (h n) ≡ true → Err (told (Held n)) ≡ put_answer capacity cost h used n bytes
  put_held e = rw (ne_eqb (length bytes) 0 (λ z. omega arith), le-ltb 128 (length bytes) short, e)

  pub put_full : (u : Units) → h n ≡ None → capacity < used + cost (length bytes) → u.wanted ≡ cost (length bytes) → u.free ≡ capacity - used → Err (told (StoreFull n u)) ≡ put_answer capacity cost h used n bytes
  put_full u e l w f = rw (ne_eqb (length bytes) 0 (λ z. omega arith), le-ltb 128 (length bytes) short, e, lt-ltb capacity (used + cost (length bytes)) l, ← w, ← f)

  pub put_ok : h n ≡ None → used + cost (length bytes) ≤ capacity → Ok tt ≡ put_answer capacity cost h used n bytes
  put_ok e l = rw (ne_eqb (length bytes) 0 (λ z. omega arith), le-ltb 128 (length bytes) short, e, le-ltb capacity (used + cost (length bytes)) l)

-- discard
module _ (h : Contents) (n : ℕ) where
  pub discard_ok : (bytes : List ℕ) → h n ≡ Some bytes → Ok tt ≡ discard_answer h n
  discard_ok bytes e = rw e
