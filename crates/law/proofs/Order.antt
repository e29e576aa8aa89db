-- What was handed over at a mailbox, and then what is queued there, is in the order of acceptance, by turns.
use Rattle.std.proofs.Common.{◌≡◌, ℕ, Bool, true, false, cond, eqb, List, [], ◌∷◌, ◌++◌, map, Some, None, filter, Option, sym, refl, ap, ◌∙◌, subst}
use mathlib.Core.List.Sublist
use mathlib.Core.List.{Sublist, sublist-cons_self}
use Rattle.std.proofs.lemmas.Bool.{eqb-true, cond_both}
use Rattle.art.specs.declared.task.Message.{Message}
use Rattle.art.specs.State.{Kind, Mailbox, State, changed, initial, running}
use Rattle.art.specs.Verbs.{queue, unqueue, unqueued, with_messages, with_receivers}
use Rattle.law.specs.History.{Acceptance, HandOver, History, no_history}
use Rattle.law.specs.Law.{accepted_at, handed_over_at}
use Rattle.law.proofs.Counting.{changed_both, changed_same}
use Rattle.law.proofs.Sound.{InOrder, Mailboxes, Sound, behind, messages_in}
use Rattle.law.proofs.Turn.{next_message, with_accepted, with_handed_over, Turn, stay, clock, create, finish, sleep, hurry, open_box, close_box, tell, tell_plain, fetch, await, take_plain, take_wake, queue_plain, queue_over, queue_wait, hand, waken, give_up, withdraw}

-- Queues in front of a list

behind_last : (xs : List Message) (x : Message) (l : List ℕ) → behind (xs ++ (x ∷ [])) l ≡ x.number ∷ behind xs l
behind_last [] x l = refl
behind_last (y ∷ xs) x l = behind_last xs x (y.number ∷ l)

behind_more : (xs : List Message) (k l : List ℕ) → Sublist k l → Sublist (behind xs k) (behind xs l)
behind_more [] k l w = w
behind_more (x ∷ xs) k l w = behind_more xs (x.number ∷ k) (x.number ∷ l) (Sublist.cons-cons x.number w)

-- the first of a queue leaves it
behind_fewer : (x : Message) (xs : List Message) (l : List ℕ) → Sublist (behind xs l) (behind (x ∷ xs) l)
behind_fewer x xs l = behind_more xs l (x.number ∷ l) (sublist-cons_self x.number l)

behind_all : (xs : List Message) (l : List ℕ) → Sublist l (behind xs l)
behind_all [] l = Sublist.refl l
behind_all (x ∷ xs) l = Sublist.trans (behind_all xs l) (behind_fewer x xs l)

behind_unqueued : (n : ℕ) (xs : List Message) (l : List ℕ) → Sublist (behind (unqueued n xs) l) (behind xs l)
behind_unqueued n [] l = Sublist.refl l
behind_unqueued n (x ∷ xs) l = cond_both (eqb n x.number) xs (x ∷ unqueued n xs) (λ q. Sublist (behind q l) (behind (x ∷ xs) l))
    (λ _. behind_fewer x xs l) (λ _. behind_unqueued n xs (x.number ∷ l))

pub order_holds : (boxes : Mailboxes) (h : History) → InOrder boxes h → (m : ℕ) → Sublist (handed_over_at m h) (accepted_at m h)
order_holds boxes h w m = Sublist.trans (behind_all (messages_in (boxes m)) (handed_over_at m h)) (w m)

-- What changes at one mailbox

-- what holds by a test whether two numbers are the same
at_one : (i m : ℕ) (P : Bool → Type 0) → (i ≡ m → P true) → P false → P (eqb i m)
at_one i m P f g = go (eqb i m) refl
  where
    go : (b : Bool) → eqb i m ≡ b → P b
    go true e = f (eqb-true i m e)
    go false e = g

-- the queue of a mailbox, what was handed over there and what was accepted there
abbrev Lined : Option Mailbox → List ℕ → List ℕ → Type 0
Lined o handed taken = Sublist (behind (messages_in o) handed) taken

-- numbers, with one more where the test holds
abbrev with_one : {X : Type 0} → (X → ℕ) → Bool → X → List X → List ℕ
with_one number c x l = map number (cond c (x ∷ l) l)

-- what was handed over at mailbox i, with x where the test holds, and what was accepted there, with a
abbrev handed_with : HandOver → ℕ → History → Bool → List ℕ
handed_with x i h c = with_one (λ y. y.number) c x (filter (λ y. eqb i y.mailbox) h.handed_over)

abbrev accepted_with : Acceptance → ℕ → History → Bool → List ℕ
accepted_with a i h c = with_one (λ y. y.number) c a (filter (λ y. eqb i y.mailbox) h.accepted)

module _ (boxes : Mailboxes) (h : History) (m : ℕ) (w : InOrder boxes h) where
  -- the queue of m becomes smaller, if it changes
  smaller : (v : Option Mailbox) → ((l : List ℕ) → Sublist (behind (messages_in v) l) (behind (messages_in (boxes m)) l)) → InOrder (changed boxes m v) h
  smaller v f i = changed_both (λ j o. Lined o (handed_over_at j h) (accepted_at j h)) boxes m v (Sublist.trans (f (handed_over_at m h)) (w m)) i (λ _. w i)

  module _ (b : Mailbox) (e : boxes m ≡ Some b) where
    -- the queue of m as it was
    there : (xs : List Message) → b.messages ≡ xs → (i : ℕ) → i ≡ m → Sublist (behind xs (handed_over_at i h)) (accepted_at i h)
    there xs q i z = subst (λ l. Sublist (behind l (handed_over_at i h)) (accepted_at i h)) (ap messages_in (ap boxes z ∙ e) ∙ q) (w i)

    -- messages leave the queue of m, or none does
    fewer : (c : Mailbox) → ((l : List ℕ) → Sublist (behind c.messages l) (behind b.messages l)) → InOrder (changed boxes m (Some c)) h
    fewer c f = smaller (Some c) (λ l. subst (λ o. Sublist (behind c.messages l) (behind (messages_in o) l)) (sym e) (f l))

    -- the oldest message is handed over to task t
    takes : (y : Message) (ys : List Message) (t : ℕ) → b.messages ≡ y ∷ ys → InOrder (changed boxes m (Some (with_messages b ys))) (with_handed_over m y.number t h)
    takes y ys t q i = at_one i m
        (λ c. Lined (cond c (Some (with_messages b ys)) (boxes i)) (handed_with (record { mailbox = m; number = y.number; receiver = t }) i h c) (accepted_at i h))
        (there (y ∷ ys) q i) (w i)

    -- a message is accepted and comes to the end of the queue
    joins : (x : Message) (bytes : List ℕ) → InOrder (changed boxes m (Some (queue x b))) (with_accepted m x.number bytes x.sender h)
    joins x bytes i = at_one i m
        (λ c. Lined (cond c (Some (queue x b)) (boxes i)) (handed_over_at i h) (accepted_with (record { mailbox = m; number = x.number; bytes = bytes; sender = x.sender }) i h c))
        (λ z. rw behind_last (Sublist.cons-cons x.number (there b.messages refl i z))) (w i)

    -- a message is accepted and handed over to task t at once
    passes : (rs : List ℕ) (n t : ℕ) (bytes : List ℕ) (sender : Option ℕ) → b.messages ≡ []
        → InOrder (changed boxes m (Some (with_receivers b rs))) (with_handed_over m n t (with_accepted m n bytes sender h))
    passes rs n t bytes sender q i = at_one i m
        (λ c. Lined (cond c (Some (with_receivers b rs)) (boxes i)) (handed_with (record { mailbox = m; number = n; receiver = t }) i h c)
        (accepted_with (record { mailbox = m; number = n; bytes = bytes; sender = sender }) i h c))
        (λ z. rw q (Sublist.cons-cons n (there [] q i z))) (w i)

pub keep_in_order : (kind : Kind) (first : ℕ) (s s' : State) (h h' : History) → Sound kind first s h → Turn kind s h s' h' → InOrder s'.mailboxes h'
keep_in_order kind first s _ h _ w stay = w.in_order
keep_in_order kind first s _ h _ w (clock _) = w.in_order
keep_in_order kind first s _ h _ w (create _ _ _ _ _) = w.in_order
keep_in_order kind first s _ h _ w (finish _ _) = w.in_order
keep_in_order kind first s _ h _ w (sleep _ _ _) = w.in_order
keep_in_order kind first s _ h _ w (hurry _ _ _) = w.in_order
keep_in_order kind first s _ h _ w (open_box m _ _ _ _ _ _ _) = smaller s.mailboxes h m w.in_order _ (behind_all (messages_in (s.mailboxes m)))
keep_in_order kind first s _ h _ w (close_box m _ _ _ _) = smaller s.mailboxes h m w.in_order None (behind_all (messages_in (s.mailboxes m)))
keep_in_order kind first s _ h _ w (tell _ _ _ _ _) = w.in_order
keep_in_order kind first s _ h _ w (tell_plain _ _ _ _) = w.in_order
keep_in_order kind first s _ h _ w (fetch _ _ _ _ _ _ _) = w.in_order
keep_in_order kind first s _ h _ w (await _ m b _ at _) = fewer s.mailboxes h m w.in_order b at.here _ (λ l. Sublist.refl _)
keep_in_order kind first s _ h _ w (take_plain m b y ys _ _ old _) = takes s.mailboxes h m w.in_order b old.at.here y ys _ old.first
keep_in_order kind first s _ h _ w (take_wake m b y ys _ _ _ _ old _ _ _) = takes s.mailboxes h m w.in_order b old.at.here y ys _ old.first
keep_in_order kind first s _ h _ w (queue_plain m b bytes at _ _) = joins s.mailboxes h m w.in_order b at.here (next_message s None) bytes
keep_in_order kind first s _ h _ w (queue_over m b y ys _ bytes old _ _ _) =
    joins (changed s.mailboxes m (Some (with_messages b ys))) h m
    (fewer s.mailboxes h m w.in_order b old.at.here (with_messages b ys) (λ l. rw old.first (behind_fewer y ys l)))
    (with_messages b ys) (changed_same s.mailboxes m (Some (with_messages b ys))) (next_message s None) bytes
keep_in_order kind first s _ h _ w (queue_wait _ m b bytes _ at _ _) = joins s.mailboxes h m w.in_order b at.here (next_message s (Some (running s))) bytes
keep_in_order kind first s _ h _ w (hand sender m b t _ rs bytes at none _ _ _ _) = passes s.mailboxes h m w.in_order b at.here rs s.next t bytes sender none
keep_in_order kind first s _ h _ w (waken _ _ _ _ _ _) = w.in_order
keep_in_order kind first s _ h _ w (give_up _ _ m b _ _ at) = fewer s.mailboxes h m w.in_order b at.here _ (λ l. Sublist.refl _)
keep_in_order kind first s _ h _ w (withdraw _ _ m b n _ _ at) = fewer s.mailboxes h m w.in_order b at.here (unqueue n b) (behind_unqueued n b.messages)

pub first_in_order : (n : ℕ) → InOrder (initial n).mailboxes no_history
first_in_order n m = Sublist.refl []
