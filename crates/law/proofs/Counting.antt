-- Sums over lists, and over tables of which one entry changes; counts are such sums.
use Rattle.std.proofs.Common.{◌≡◌, ℕ, zero, suc, ◌+◌, ◌-◌, ◌<◌, ◌≤◌, cond, ◌||◌, eqb, List, [], ◌∷◌, ◌++◌, map, length, None, Option, sym, refl, ap, ◌∙◌, subst, ap₂, ⊎_elim, arith}
use Rattle.std.proofs.lemmas.Bool.{eqb-true, eqb-false, eq-eqb, ne_eqb, cond_both, cases_eq}
use Rattle.art.specs.declared.task.Task.{Task}
use Rattle.art.specs.State.{Kind, Mailbox, changed}
use Rattle.art.specs.Verbs.{removed, entered, urgent}
use Rattle.art.specs.Rules.{numbers_from}
use Rattle.law.specs.History.{of_option}
use Rattle.law.specs.Law.{sum_of, count, each, of_mailboxes, of_tasks}

-- Lists

pub sum_append : {A : Type 0} (f : A → ℕ) (xs ys : List A) → sum_of f (xs ++ ys) ≡ sum_of f xs + sum_of f ys
sum_append f [] ys = omega arith
sum_append f (x ∷ xs) ys = omega (arith, sum_append f xs ys)

pub sum_map : {A B : Type 0} (f : B → ℕ) (g : A → B) (xs : List A) → sum_of f (map g xs) ≡ sum_of (λ x. f (g x)) xs
sum_map f g [] = refl
sum_map f g (x ∷ xs) = ap (λ z. f (g x) + z) (sum_map f g xs)

-- a length is a sum of ones
pub sum_ones : {A : Type 0} (xs : List A) → sum_of (λ _. 1) xs ≡ length xs
sum_ones [] = refl
sum_ones (x ∷ xs) = omega (arith, sum_ones xs)

pub count_append : (k : ℕ) (xs ys : List ℕ) → count k (xs ++ ys) ≡ count k xs + count k ys
count_append k xs ys = sum_append (λ x. cond (eqb k x) 1 0) xs ys

pub one_self : (k : ℕ) → ◌≡◌ {A = ℕ} (cond (eqb k k) 1 0) 1
one_self k = ap {B = ℕ} (λ b. cond b 1 0) (eq-eqb k k refl)

pub one_other : (k n : ℕ) → (k ≡ n → ⊥) → ◌≡◌ {A = ℕ} (cond (eqb k n) 1 0) 0
one_other k n ne = ap {B = ℕ} (λ b. cond b 1 0) (ne_eqb k n ne)

pub count_self : (k : ℕ) (xs : List ℕ) → count k (k ∷ xs) ≡ 1 + count k xs
count_self k xs = ap (λ z. z + count k xs) (one_self k)

pub count_other : (k n : ℕ) (xs : List ℕ) → (k ≡ n → ⊥) → count k (n ∷ xs) ≡ count k xs
count_other k n xs ne = ap (λ z. z + count k xs) (one_other k n ne) ∙ omega arith

-- two functions that agree on what stands in a list
pub sum_agree : (f g : ℕ → ℕ) (xs : List ℕ) → ((k : ℕ) → 1 ≤ count k xs → f k ≡ g k) → sum_of f xs ≡ sum_of g xs
sum_agree f g [] h = refl
sum_agree f g (x ∷ xs) h = ap₂ ◌+◌ (h x (omega (arith, count_self x xs))) (sum_agree f g xs (λ k l. h k (omega arith)))

-- A list without one element, and with one entered

pub removed_other : (u t : ℕ) (l : List ℕ) → (u ≡ t → ⊥) → count u (removed t l) ≡ count u l
removed_other u t [] ne = refl
removed_other u t (x ∷ l) ne = cond_both (eqb t x) l (x ∷ removed t l) (λ k. count u k ≡ count u (x ∷ l))
    (λ e. sym (count_other u x l (λ q. ne (q ∙ sym (eqb-true t x e))))) (λ _. ap (λ z. cond (eqb u x) 1 0 + z) (removed_other u t l ne))

pub removed_same : (t : ℕ) (l : List ℕ) → count t (removed t l) ≡ count t l - 1
removed_same t [] = omega arith
removed_same t (x ∷ l) = cond_both (eqb t x) l (x ∷ removed t l) (λ k. count t k ≡ count t (x ∷ l) - 1)
    (λ e. omega (arith, ap (λ b. cond {A = ℕ} b 1 0) e)) (λ e. omega (arith, ap (λ b. cond {A = ℕ} b 1 0) e, removed_same t l))

pub length_removed : (t : ℕ) (l : List ℕ) → 1 ≤ count t l → length (removed t l) + 1 ≡ length l
length_removed t [] h = absurd (omega arith)
length_removed t (x ∷ l) h = cond_both (eqb t x) l (x ∷ removed t l) (λ k. length k + 1 ≡ suc (length l))
    (λ _. omega arith) (λ e. omega (arith, length_removed t l (omega (arith, ap (λ b. cond {A = ℕ} b 1 0) e))))

pub count_entered : (kind : Kind) (tasks : ℕ → Option Task) (u t : ℕ) (l : List ℕ) → count u (entered kind tasks t l) ≡ count u (t ∷ l)
unfolding entered
count_entered kind tasks u t [] = refl
count_entered kind tasks u t (x ∷ l) = cond_both (eqb x 0 || urgent kind (tasks t) (tasks x)) (t ∷ x ∷ l) (x ∷ entered kind tasks t l) (λ k. count u k ≡ count u (t ∷ x ∷ l))
    (λ _. refl) (λ _. omega (arith, count_entered kind tasks u t l))

-- lists with the same elements have the same length
pub same_length : (xs ys : List ℕ) → ((k : ℕ) → count k xs ≡ count k ys) → length xs ≡ length ys
same_length [] [] h = refl
same_length [] (y ∷ ys) h = absurd (omega (arith, h y, count_self y ys))
same_length (x ∷ xs) ys h =
    omega (
      arith,
      length_removed x ys (omega (arith, h x, count_self x xs)),
      same_length xs (removed x ys) (λ k. ⊎_elim
          (λ e. subst (λ i. count i xs ≡ count i (removed x ys)) (sym e) (omega (arith, removed_same x ys, h x, count_self x xs)))
          (λ ne. sym (removed_other k x ys ne ∙ sym (h k) ∙ count_other k x xs ne))
          (cases_eq k x)),
    )

-- Tables

pub changed_same : {A : Type 0} (f : ℕ → A) (n : ℕ) (v : A) → changed f n v n ≡ v
changed_same f n v = ap (λ b. cond b v (f n)) (eq-eqb n n refl)

pub changed_other : {A : Type 0} (f : ℕ → A) (n : ℕ) (v : A) (m : ℕ) → (m ≡ n → ⊥) → changed f n v m ≡ f m
changed_other f n v m ne = ap (λ b. cond b v (f m)) (ne_eqb m n ne)

-- what holds of a table with one place changed
pub changed_both : {A : Type 0} (P : ℕ → A → Type 0) (f : ℕ → A) (n : ℕ) (v : A) → P n v → (m : ℕ) → ((m ≡ n → ⊥) → P m (f m)) → P m (changed f n v m)
changed_both P f n v p m q = cond_both (eqb m n) v (f m) (P m) (λ e. subst (λ i. P i v) (sym (eqb-true m n e)) p) (λ e. q (eqb-false m n e))

-- the sum of f over the lists of k entries from n on
abbrev over : {A B : Type 0} → (B → ℕ) → (A → List B) → (ℕ → Option A) → ℕ → ℕ → ℕ
over f g table n k = sum_of f (each (λ i. of_option (table i) g) (numbers_from n k))

module _ {A B : Type 0} (f : B → ℕ) (g : A → List B) where
  over_more : (table : ℕ → Option A) (n k : ℕ) → over f g table n (suc k) ≡ sum_of f (of_option (table n) g) + over f g table (n + 1) k
  over_more table n k = sum_append f (of_option (table n) g) (each (λ i. of_option (table i) g) (numbers_from (n + 1) k))

  over_same : (table : ℕ → Option A) (j : ℕ) (v : Option A) (n k : ℕ) → j < n → over f g (changed table j v) n k ≡ over f g table n k
  over_same table j v n zero l = refl
  over_same table j v n (suc k) l = over_more (changed table j v) n k
      ∙ ap₂ ◌+◌ (ap (λ o. sum_of f (of_option o g)) (changed_other table j v n (λ e. omega arith))) (over_same table j v (n + 1) k (omega arith)) ∙ sym (over_more table n k)

  over_changed : (table : ℕ → Option A) (j : ℕ) (v : Option A) (n k : ℕ) → n ≤ j → j < n + k
      → over f g (changed table j v) n k + sum_of f (of_option (table j) g) ≡ over f g table n k + sum_of f (of_option v g)
  over_changed table j v n zero a b = absurd (omega arith)
  over_changed table j v n (suc k) a b = ⊎_elim
      (λ (e : n ≡ j). omega (
        arith,
        over_more (changed table j v) n k,
        over_more table n k,
        over_same table j v (n + 1) k (omega arith),
        ap (λ i. sum_of f (of_option (changed table j v i) g)) e,
        ap (λ o. sum_of f (of_option o g)) (changed_same table j v),
        ap (λ i. sum_of f (of_option (table i) g)) e,
      ))
      (λ ne. omega (
        arith,
        over_more (changed table j v) n k,
        over_more table n k,
        over_changed table j v (n + 1) k (omega arith) (omega arith),
        ap (λ o. sum_of f (of_option o g)) (changed_other table j v n ne),
      ))
      (cases_eq n j)

pub mailbox_changed : {B : Type 0} (f : B → ℕ) (g : Mailbox → List B) (boxes : ℕ → Option Mailbox) (m : ℕ) (v : Option Mailbox) → m < 32
    → sum_of f (of_mailboxes g (changed boxes m v)) + sum_of f (of_option (boxes m) g) ≡ sum_of f (of_mailboxes g boxes) + sum_of f (of_option v g)
unfolding of_mailboxes
mailbox_changed f g boxes m v l = over_changed f g boxes m v 0 32 (omega arith) (omega arith)

pub task_changed : {B : Type 0} (f : B → ℕ) (g : Task → List B) (tasks : ℕ → Option Task) (t : ℕ) (v : Option Task) → t < 64
    → sum_of f (of_tasks g (changed tasks t v)) + sum_of f (of_option (tasks t) g) ≡ sum_of f (of_tasks g tasks) + sum_of f (of_option v g)
unfolding of_tasks
task_changed f g tasks t v l = over_changed f g tasks t v 0 64 (omega arith) (omega arith)

-- what one entry has is a part of the whole
pub in_mailbox : {B : Type 0} (f : B → ℕ) (g : Mailbox → List B) (boxes : ℕ → Option Mailbox) (m : ℕ) → m < 32 → sum_of f (of_option (boxes m) g) ≤ sum_of f (of_mailboxes g boxes)
in_mailbox f g boxes m l = omega (arith, mailbox_changed f g boxes m None l)

pub in_task : {B : Type 0} (f : B → ℕ) (g : Task → List B) (tasks : ℕ → Option Task) (t : ℕ) → t < 64 → sum_of f (of_option (tasks t) g) ≤ sum_of f (of_tasks g tasks)
in_task f g tasks t l = omega (arith, task_changed f g tasks t None l)
