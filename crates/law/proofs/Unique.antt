-- What stands in a list; and of the acceptances, one whose number stands once is the only one of that number.
use Rattle.std.proofs.Common.{◌≡◌, ℕ, zero, suc, ◌<◌, ◌≤◌, cond, eqb, ◌⊎◌, List, [], ◌∷◌, map, length, get_or, sym, refl, ap, ◌∙◌, subst, inl, inr, ⊎_elim, arith}
use Rattle.std.specs.List.{ContainsAt as Has}
use Rattle.law.specs.History.{Acceptance}
use Rattle.law.specs.Law.{count}
use Rattle.law.proofs.Counting.{one_self}

-- Elements of a list

pub first_of : {A : Type 0} (x : A) (l : List A) → Has (x ∷ l) x
first_of x l = (0, omega arith, λ _. refl)

-- an element is the first or one of the others
pub has_cases : {A : Type 0} (y : A) (l : List A) (x : A) → Has (y ∷ l) x → (y ≡ x) ⊎ Has l x
has_cases {A} y l x h = go h.0 h.1 h.2
  where
    go : (k : ℕ) → k < suc (length l) → ((d : A) → get_or (y ∷ l) k d ≡ x) → (y ≡ x) ⊎ Has l x
    go zero lt e = inl (e x)
    go (suc k) lt e = inr (k, omega arith, e)

-- Acceptances

abbrev pub numbers_of : List Acceptance → List ℕ
numbers_of l = map (λ x. x.number) l

pub has_number : (l : List Acceptance) (a : Acceptance) → Has l a → 1 ≤ count a.number (numbers_of l)
has_number [] a h = absurd (omega (arith, h.1))
has_number (y ∷ l) a h = ⊎_elim
    (λ (e : y ≡ a). omega (arith, one_self a.number, ap (λ z. cond {A = ℕ} (eqb a.number z.number) 1 0) e))
    (λ g. omega (arith, has_number l a g))
    (has_cases y l a h)

-- a number that stands once in a list and is the first's is none of the others'
pub first_alone : (y : Acceptance) (l : List Acceptance) (k : ℕ) → y.number ≡ k → 1 ≤ count k (numbers_of l) → count k (numbers_of (y ∷ l)) ≤ 1 → ⊥
first_alone y l k e p c = omega (arith, one_self k, ap (λ i. cond {A = ℕ} (eqb k i) 1 0) e)

-- two acceptances with the same number are the same, where that number stands at most once
pub unique : (l : List Acceptance) (a b : Acceptance) → Has l a → Has l b → a.number ≡ b.number → count a.number (map (λ x. x.number) l) ≤ 1 → a ≡ b
unique [] a b p q e c = absurd (omega (arith, p.1))
unique (y ∷ l) a b p q e c = ⊎_elim
    (λ (i : y ≡ a). ⊎_elim
    (λ (j : y ≡ b). sym i ∙ j)
    (λ j. absurd (first_alone y l a.number (ap (λ z. z.number) i) (subst (λ k. 1 ≤ count k (numbers_of l)) (sym e) (has_number l b j)) c))
    (has_cases y l b q))
    (λ i. ⊎_elim
    (λ (j : y ≡ b). absurd (first_alone y l a.number (ap (λ z. z.number) j ∙ sym e) (has_number l a i) c))
    (λ j. unique l a b i j e (omega arith))
    (has_cases y l b q))
    (has_cases y l a p)
