-- The messages of a queue with which a task waits, as the queue changes.
use Rattle.std.proofs.Common.{◌≡◌, ℕ, ◌+◌, ◌≤◌, Bool, true, false, cond, eqb, ◌⊎◌, List, [], ◌∷◌, ◌++◌, map, length, Some, None, Option, sym, refl, ap, ◌∙◌, ap₂, inl, inr, ⊎_elim, append_assoc, append-nil, arith, length-append}
use Rattle.std.proofs.lemmas.Bool.{eqb-false, eq-eqb, ne_eqb, cond_both, cases_eq}
use Rattle.art.specs.declared.task.Message.{Message}
use Rattle.art.specs.Verbs.{unqueued}
use Rattle.law.specs.History.{of_option}
use Rattle.law.specs.Law.{count, each, sender_in}
use Rattle.law.proofs.Counting.{count_append, count_self}
use Rattle.law.proofs.Sound.{number_if, sent_by}

-- One message

pub own_number : (t n : ℕ) → number_if t n (Some t) ≡ n ∷ []
own_number t n = ap (λ c. cond c (n ∷ []) []) (eq-eqb t t refl)

pub other_number : (u t n : ℕ) → (u ≡ t → ⊥) → number_if u n (Some t) ≡ []
other_number u t n ne = ap (λ c. cond c (n ∷ []) []) (ne_eqb u t ne)

-- task t is the sender, or the message is none of its own
owns : (t n : ℕ) (o : Option ℕ) → (o ≡ Some t) ⊎ (number_if t n o ≡ [])
owns t n None = inr refl
owns t n (Some u) = ⊎_elim (λ e. inl (ap Some (sym e))) (λ ne. inr (other_number t u n ne)) (cases_eq t u)

-- The oldest message, by its sender

module _ (x : Message) (xs : List Message) where
  pub oldest_own : (t : ℕ) → x.sender ≡ Some t → sent_by t (x ∷ xs) ≡ x.number ∷ sent_by t xs
  oldest_own t q = ap (λ o. number_if t x.number o ++ sent_by t xs) q ∙ ap (λ l. l ++ sent_by t xs) (own_number t x.number)

  pub oldest_other : (u t : ℕ) → x.sender ≡ Some t → (u ≡ t → ⊥) → sent_by u (x ∷ xs) ≡ sent_by u xs
  oldest_other u t q ne = ap (λ o. number_if u x.number o ++ sent_by u xs) q ∙ ap (λ l. l ++ sent_by u xs) (other_number u t x.number ne)

  pub oldest_plain : (u : ℕ) → x.sender ≡ None → sent_by u (x ∷ xs) ≡ sent_by u xs
  oldest_plain u q = ap (λ o. number_if u x.number o ++ sent_by u xs) q

-- a message comes to the end of the queue
pub sent_by_end : (t : ℕ) (xs : List Message) (y : Message) → sent_by t (xs ++ (y ∷ [])) ≡ sent_by t xs ++ number_if t y.number y.sender
sent_by_end t [] y = append-nil (number_if t y.number y.sender)
sent_by_end t (x ∷ xs) y = ap (λ l. number_if t x.number x.sender ++ l) (sent_by_end t xs y)
    ∙ sym (append_assoc (number_if t x.number x.sender) (sent_by t xs) (number_if t y.number y.sender))

-- as often as t stands among the senders
pub count_senders : (t : ℕ) (xs : List Message) → count t (each sender_in xs) ≡ length (sent_by t xs)
count_senders t [] = refl
count_senders t (x ∷ xs) = count_append t (sender_in x) (each sender_in xs) ∙ ap₂ ◌+◌ (one x.sender) (count_senders t xs)
    ∙ sym (length-append (number_if t x.number x.sender) (sent_by t xs))
  where
    one : (o : Option ℕ) → count t (of_option o (λ u. u ∷ [])) ≡ length (number_if t x.number o)
    one None = refl
    one (Some u) = go (eqb t u)
      where
        go : (c : Bool) → ◌≡◌ {A = ℕ} (cond c 1 0 + 0) (length (cond c (x.number ∷ []) []))
        go true = refl
        go false = refl

-- A message leaves the queue

-- what t waits with is in the queue
sent_queued : (t k : ℕ) (xs : List Message) → count k (sent_by t xs) ≤ count k (map (λ x. x.number) xs)
sent_queued t k [] = omega arith
sent_queued t k (x ∷ xs) = omega (arith, count_append k (number_if t x.number x.sender) (sent_by t xs), one x.sender, sent_queued t k xs)
  where
    one : (o : Option ℕ) → count k (number_if t x.number o) ≤ cond (eqb k x.number) 1 0
    one None = omega arith
    one (Some u) = cond_both (eqb t u) (x.number ∷ []) [] (λ l. count k l ≤ cond (eqb k x.number) 1 0) (λ _. omega arith) (λ _. omega arith)

-- the one message with which t waits leaves the queue: the other tasks wait with what they waited with
pub unqueued_sent : (t n : ℕ) (xs : List Message) → sent_by t xs ≡ n ∷ [] → count n (map (λ x. x.number) xs) ≤ 1
    → (sent_by t (unqueued n xs) ≡ []) × ((u : ℕ) → (u ≡ t → ⊥) → sent_by u (unqueued n xs) ≡ sent_by u xs)
unqueued_sent t n [] e l = let z : ◌≡◌ {A = ℕ} 0 1 = cc in absurd (omega arith)
unqueued_sent t n (x ∷ xs) e l = cond_both (eqb n x.number) xs (x ∷ unqueued n xs) (λ ys. (sent_by t ys ≡ []) × ((u : ℕ) → (u ≡ t → ⊥) → sent_by u ys ≡ sent_by u (x ∷ xs)))
    (λ c. ⊎_elim
    (λ q. let own = oldest_own x xs t q in (cc, λ u ne. sym (oldest_other x xs u t q ne)))
    (λ q. let same : sent_by t xs ≡ n ∷ [] = sym (ap (λ k. k ++ sent_by t xs) q) ∙ e in
    absurd (omega (arith, sent_queued t n xs, ap (count n) same, count_self n [], ap (λ b. cond {A = ℕ} b 1 0) c)))
    (owns t x.number x.sender))
    (λ c. ⊎_elim
    (λ q. let own = oldest_own x xs t q in absurd (eqb-false n x.number c (cc)))
    (λ q. let rest = unqueued_sent t n xs (sym (ap (λ k. k ++ sent_by t xs) q) ∙ e) (omega arith) in
    (ap (λ k. k ++ sent_by t (unqueued n xs)) q ∙ rest.0, λ u ne. ap (λ k. number_if u x.number x.sender ++ k) (rest.1 u ne)))
    (owns t x.number x.sender))
