-- A table of one value.
use Rattle.std.proofs.Common.{◌≡◌, ℕ, replicate, get_or, ⊎_elim, arith}
use Rattle.std.proofs.lemmas.List.{get_or-replicate, get_or_past, length-replicate}
use Rattle.std.proofs.lemmas.Bool.{cases_lt}

-- read past its end as the same
pub getD_blank : {X : Type 0} (n u : ℕ) (v : X) → get_or (replicate n v) u v ≡ v
getD_blank n u v =
    ⊎_elim (λ h. get_or-replicate n u v v h) (λ h. get_or_past (replicate n v) u v (omega (arith, length-replicate n v))) (cases_lt u n)
