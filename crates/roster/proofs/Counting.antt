-- How the count of ready tasks goes with a write to their table.
use Rattle.std.proofs.Common.{◌≡◌, ℕ, zero, suc, ◌+◌, ◌<◌, ◌≤◌, Bool, true, false, cond, List, [], ◌∷◌, length, get_or, set, None, Option, ap, ⊎_elim, arith}
use Rattle.std.proofs.lemmas.Bool.{cases_lt}
use Rattle.std.proofs.lemmas.List.{set_past}
use Rattle.art.specs.declared.task.Task.{Task}
use Rattle.roster.specs.Places.{stands_ready, ready_count}

-- what a place adds to the count
abbrev weight : Bool → ℕ
weight b = cond b 1 0

-- at most one
weight_le : (b : Bool) → weight b ≤ 1
weight_le true = omega arith
weight_le false = omega arith

-- with the new task's weight in the place of the old one's
count_set : (xs : List (Option Task)) (t : ℕ) (v : Option Task) → t < length xs →
    ready_count (set xs t v) + weight (stands_ready (get_or xs t None)) ≡ ready_count xs + weight (stands_ready v)
count_set [] t v h = absurd (omega arith)
count_set (x ∷ xs) zero v h = omega arith
count_set (x ∷ xs) (suc t) v h = omega (arith, count_set xs t v (omega arith))

-- no more tasks are ready than there are places
pub count_le : (xs : List (Option Task)) → ready_count xs ≤ length xs
count_le [] = omega arith
count_le (x ∷ xs) = omega (arith, count_le xs, weight_le (stands_ready x))

-- a task that was not ready becomes ready
pub count_more : (xs : List (Option Task)) (t : ℕ) (v : Option Task) → t < length xs → stands_ready (get_or xs t None) ≡ false → stands_ready v ≡ true →
    ready_count (set xs t v) ≡ ready_count xs + 1
count_more xs t v h p q = omega (arith, count_set xs t v h, ap weight p, ap weight q)

-- a task stays ready, or stays not ready
pub count_same : (xs : List (Option Task)) (t : ℕ) (v : Option Task) → stands_ready v ≡ stands_ready (get_or xs t None) → ready_count (set xs t v) ≡ ready_count xs
count_same xs t v p =
    ⊎_elim (λ h. omega (arith, count_set xs t v h, ap weight p)) (λ h. ap ready_count (set_past xs t v h)) (cases_lt t (length xs))

-- whatever becomes of one task, at most one is ready no longer
pub count_less : (xs : List (Option Task)) (t : ℕ) (v : Option Task) → ready_count (set xs t v) < ready_count xs → ready_count (set xs t v) + 1 ≡ ready_count xs
count_less xs t v l =
    ⊎_elim
    (λ h. omega (arith, count_set xs t v h, weight_le (stands_ready (get_or xs t None))))
    (λ h. absurd (omega (arith, ap ready_count (set_past xs t v h))))
    (cases_lt t (length xs))
