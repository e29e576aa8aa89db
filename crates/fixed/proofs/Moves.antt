-- The steps and the ends of the loops that open and close a gap in a list.
use Rattle.std.proofs.Common.{◌≡◌, ℕ, suc, ◌+◌, ◌-◌, ◌<◌, ◌≤◌, List, [], ◌∷◌, ◌++◌, length, get_or, take, drop, set, sym, ap, ◌∙◌, add-zero, add-one, arith}
use lib.Seq.{take-append-add}
use Rattle.std.proofs.lemmas.List.{append-nil, append_assoc, take_more_set, drop_more, drop-set-lt, length-take-le, take-take, drop-take, drop-drop, get_or-drop}
use Rattle.std.specs.List.{insert, remove}

take_past : {X : Type 0} (n m : ℕ) (a b : List X) → n ≡ length a + m → take n (a ++ b) ≡ a ++ take m b
take_past n m a b e = ap (λ k. take k (a ++ b)) e ∙ take-append-add a b m

drop_front : {X : Type 0} (i m n : ℕ) (xs : List X) → n ≡ i + m → drop i (take n xs) ≡ take m (drop i xs)
drop_front i m n xs e = ap (λ k. drop i (take k xs)) e ∙ drop-take i m xs

-- what stands at k, where two lists agree from k on
same_at : {X : Type 0} (k : ℕ) (s s₀ : List X) (d : X) → drop k s ≡ drop k s₀ → get_or s k d ≡ get_or s₀ k d
same_at k s s₀ d e =
    let p : get_or (drop k s) 0 d ≡ get_or s (k + 0) d = get_or-drop k s 0 d in
    let q : get_or (drop k s₀) 0 d ≡ get_or s₀ (k + 0) d = get_or-drop k s₀ 0 d in
    cc (add-zero k)

same_on : {X : Type 0} (k : ℕ) (s s₀ : List X) → drop k s ≡ drop k s₀ → drop (k + 1) s ≡ drop (k + 1) s₀
same_on k s s₀ e = sym (drop-drop 1 k s) ∙ ap (λ t. drop 1 t) e ∙ drop-drop 1 k s₀

module _ {X : Type 0} (s s₀ : List X) (k : ℕ) (e : drop k s ≡ drop k s₀) where
  pub insert_rest : (y : X) → drop (k + 1) (set s k y) ≡ drop (k + 1) s₀
  insert_rest y = drop-set-lt (k + 1) s k y (omega arith) ∙ same_on k s s₀ e

  pub insert_more : (y d : X) (r : List X) → k < length s → k < length s₀ → take k s ++ (y ∷ drop k s₀) ≡ r →
      take (k + 1) (set s k y) ++ (get_or s k d ∷ drop (k + 1) s₀) ≡ r
  insert_more y d r h h₀ q =
      ap (λ t. t ++ (get_or s k d ∷ drop (k + 1) s₀)) (take_more_set s k y h)
      ∙ append_assoc (take k s) (y ∷ []) (get_or s k d ∷ drop (k + 1) s₀)
      ∙ ap (λ t. take k s ++ (y ∷ (t ∷ drop (k + 1) s₀))) (same_at k s s₀ d e)
      ∙ ap (λ t. take k s ++ (y ∷ t)) (sym (drop_more s₀ k d h₀))
      ∙ q

pub insert_end : {X : Type 0} (s s₀ : List X) (i n k : ℕ) (y x : X) → k ≡ n → i ≤ n → n < length s → n ≤ length s₀ →
    take k s ++ (y ∷ drop k s₀) ≡ take i s₀ ++ (x ∷ drop i s₀) → take (n + 1) (set s n y) ≡ insert (take n s₀) i x
insert_end s s₀ i n k y x e h l l₀ q =
    take_more_set s n y l
    ∙ sym (take_past (n + 1) 1 (take n s) (y ∷ drop n s₀) (omega (arith, length-take-le n s (omega arith))))
    ∙ ap (λ t. take (n + 1) (take t s ++ (y ∷ drop t s₀))) (sym e)
    ∙ ap (λ t. take (n + 1) t) q
    ∙ take_past (n + 1) (suc (n - i)) (take i s₀) (x ∷ drop i s₀) (omega (arith, length-take-le i s₀ (omega arith)))
    ∙ ap (λ t. t ++ (x ∷ take (n - i) (drop i s₀))) (sym (take-take i n s₀ h))
    ∙ ap (λ t. take i (take n s₀) ++ (x ∷ t)) (sym (drop_front i (n - i) n s₀ (omega arith)))

module _ {X : Type 0} (s s₀ : List X) (k : ℕ) (e : drop (k + 1) s ≡ drop (k + 1) s₀) where
  pub remove_rest : (y : X) → drop (k + 1 + 1) (set s k y) ≡ drop (k + 1 + 1) s₀
  remove_rest y = drop-set-lt (k + 1 + 1) s k y (omega arith) ∙ same_on (k + 1) s s₀ e

  pub remove_more : (d : X) (r : List X) → k < length s → k + 1 < length s₀ → take k s ++ drop (k + 1) s₀ ≡ r →
      take (k + 1) (set s k (get_or s (k + 1) d)) ++ drop (k + 1 + 1) s₀ ≡ r
  remove_more d r h h₀ q =
      ap (λ t. t ++ drop (k + 1 + 1) s₀) (take_more_set s k (get_or s (k + 1) d) h)
      ∙ append_assoc (take k s) (get_or s (k + 1) d ∷ []) (drop (k + 1 + 1) s₀)
      ∙ ap (λ t. take k s ++ (t ∷ drop (k + 1 + 1) s₀)) (same_at (k + 1) s s₀ d e)
      ∙ ap (λ t. take k s ++ t) (sym (drop_more s₀ (k + 1) d h₀))
      ∙ q

pub remove_end : {X : Type 0} (s s₀ : List X) (i n k : ℕ) → k ≡ n - 1 → i < n → n ≤ length s → n ≤ length s₀ →
    take k s ++ drop (k + 1) s₀ ≡ take i s₀ ++ drop (i + 1) s₀ → take (n - 1) s ≡ remove (take n s₀) i
remove_end s s₀ i n k e h l l₀ q =
    sym (take_past (n - 1) 0 (take (n - 1) s) (drop (n - 1 + 1) s₀) (omega (arith, length-take-le (n - 1) s (omega arith))) ∙ append-nil (take (n - 1) s))
    ∙ ap (λ t. take (n - 1) (take t s ++ drop (t + 1) s₀)) (sym e)
    ∙ ap (λ t. take (n - 1) t) q
    ∙ take_past (n - 1) (n - 1 - i) (take i s₀) (drop (i + 1) s₀) (omega (arith, length-take-le i s₀ (omega arith)))
    ∙ ap (λ t. t ++ take (n - 1 - i) (drop (i + 1) s₀)) (sym (take-take i n s₀ (omega arith)))
    ∙ ap (λ t. take i (take n s₀) ++ t) (sym (drop_front (i + 1) (n - 1 - i) n s₀ (omega arith)))
    ∙ ap (λ t. take i (take n s₀) ++ drop t (take n s₀)) (add-one i)
