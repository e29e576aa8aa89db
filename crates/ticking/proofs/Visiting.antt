-- The steps of a tick over the tasks. Assumes nothing.
use mathlib.Core.Path.{◌≡◌, sym, ap, ◌∙◌}
use Prim.Native.Nat.{ℕ, suc, ◌+◌, ◌-◌, ◌≤◌, ◌<◌}
use native.Mathlib.Omega.{arith}
use Rattle.art.specs.State.{Kind, State}
use Rattle.art.specs.Rules.{numbers_from, tick_task, visited}

-- of the tasks below n those from t on have yet to be visited
pub tick_more : (k : Kind) (s s' r : State) (t n : ℕ) → t < n → s' ≡ tick_task k s t (s.tasks t) → visited k s (numbers_from t (n - t)) ≡ r → visited k s' (numbers_from (t + 1) (n - (t + 1))) ≡ r
tick_more k s s' r t n h e q =
    let some : n - t ≡ suc (n - (t + 1)) = omega arith in
    ap (λ z. visited k z (numbers_from (t + 1) (n - (t + 1)))) e ∙ ap (visited k s) (sym (ap (numbers_from t) some)) ∙ q

pub tick_all : (k : Kind) (s r : State) (t n : ℕ) → n ≤ t → visited k s (numbers_from t (n - t)) ≡ r → s ≡ r
tick_all k s r t n h q =
    let none : n - t ≡ 0 = omega arith in
    ap (visited k s) (sym (ap (numbers_from t) none)) ∙ q
