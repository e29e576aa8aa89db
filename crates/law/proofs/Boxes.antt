-- Each mailbox keeps its room and its size, and holds messages or receivers, not both, by turns.
use Rattle.std.proofs.Common.{◌≡◌, ℕ, ◌⊎◌, List, [], ◌∷◌, ◌++◌, Some, None, refl, ap, subst, inl, inr, ⊎_elim, arith}
use Rattle.art.specs.declared.task.Message.{Message}
use Rattle.art.specs.State.{Kind, Mailbox, State, changed, initial, running}
use Rattle.art.specs.Verbs.{removed, unqueued, with_messages}
use Rattle.law.specs.History.{History}
use Rattle.law.proofs.Counting.{changed_both}
use Rattle.law.proofs.Sound.{Boxed, Mailboxes, Shaped, Sound}
use Rattle.law.proofs.Turn.{At, next_message, Turn, stay, clock, create, finish, sleep, hurry, open_box, close_box, tell, tell_plain, fetch, await, take_plain, take_wake, queue_plain, queue_over, queue_wait, hand, waken, give_up, withdraw}

-- where messages are queued no receiver waits
no_receivers : (b : Mailbox) (y : Message) (ys : List Message) → Shaped b → b.messages ≡ y ∷ ys → b.receivers ≡ []
no_receivers b y ys h e = ⊎_elim (λ q. let z : ◌≡◌ {A = ℕ} 0 1 = cc in absurd (omega arith)) (λ q. q) h.apart

-- a mailbox with other messages and receivers
refilled : (b : Mailbox) (xs : List Message) (ts : List ℕ) → Shaped b → (xs ≡ []) ⊎ (ts ≡ []) → Shaped (record { capacity = b.capacity; size = b.size; messages = xs; receivers = ts })
refilled b xs ts h a = record { room = h.room; some = h.some; small = h.small; apart = a }

module _ (boxes : Mailboxes) (m : ℕ) (w : Boxed boxes) where
  box_changed : (b : Mailbox) → Shaped b → Boxed (changed boxes m (Some b))
  box_changed b h i c = changed_both (λ _ o. o ≡ Some c → Shaped c) boxes m (Some b) (λ e. subst Shaped (cc) h) i (λ _. w i c)

  box_removed : Boxed (changed boxes m None)
  box_removed i c = changed_both (λ _ o. o ≡ Some c → Shaped c) boxes m None (λ e. let z : ◌≡◌ {A = ℕ} 0 1 = cc in absurd (omega arith)) i (λ _. w i c)

module _ (s : State) (m : ℕ) (b : Mailbox) (w : Boxed s.mailboxes) (at : At s m b) where
  -- the messages and receivers of mailbox m change
  refills : (xs : List Message) (ts : List ℕ) → (xs ≡ []) ⊎ (ts ≡ []) → Boxed (changed s.mailboxes m (Some (record { capacity = b.capacity; size = b.size; messages = xs; receivers = ts })))
  refills xs ts a = box_changed s.mailboxes m w _ (refilled b xs ts (w m b at.here) a)

  -- the oldest message leaves
  takes : (y : Message) (ys : List Message) → b.messages ≡ y ∷ ys → Boxed (changed s.mailboxes m (Some (with_messages b ys)))
  takes y ys e = refills ys b.receivers (inr (no_receivers b y ys (w m b at.here) e))

pub keep_boxed : (kind : Kind) (first : ℕ) (s s' : State) (h h' : History) → Sound kind first s h → Turn kind s h s' h' → Boxed s'.mailboxes
keep_boxed kind first s _ h _ w stay = w.boxed
keep_boxed kind first s _ h _ w (clock _) = w.boxed
keep_boxed kind first s _ h _ w (create _ _ _ _ _) = w.boxed
keep_boxed kind first s _ h _ w (finish _ _) = w.boxed
keep_boxed kind first s _ h _ w (sleep _ _ _) = w.boxed
keep_boxed kind first s _ h _ w (hurry _ _ _) = w.boxed
keep_boxed kind first s _ h _ w (open_box m _ _ _ _ room some small) = box_changed s.mailboxes m w.boxed _ (record { room = room; some = some; small = small; apart = inl refl })
keep_boxed kind first s _ h _ w (close_box m _ _ _ _) = box_removed s.mailboxes m w.boxed
keep_boxed kind first s _ h _ w (tell _ _ _ _ _) = w.boxed
keep_boxed kind first s _ h _ w (tell_plain _ _ _ _) = w.boxed
keep_boxed kind first s _ h _ w (fetch _ _ _ _ _ _ _) = w.boxed
keep_boxed kind first s _ h _ w (await _ m b _ at none) = refills s m b w.boxed at b.messages (b.receivers ++ (running s ∷ [])) (inl none)
keep_boxed kind first s _ h _ w (take_plain m b y ys _ _ old _) = takes s m b w.boxed old.at y ys old.first
keep_boxed kind first s _ h _ w (take_wake m b y ys _ _ _ _ old _ _ _) = takes s m b w.boxed old.at y ys old.first
keep_boxed kind first s _ h _ w (queue_plain m b _ at none _) = refills s m b w.boxed at _ b.receivers (inr none)
keep_boxed kind first s _ h _ w (queue_over m b y ys _ _ old _ none _) =
    box_changed (changed s.mailboxes m (Some (with_messages b ys))) m (takes s m b w.boxed old.at y ys old.first) _
    (refilled b (ys ++ (next_message s None ∷ [])) b.receivers (w.boxed m b old.at.here) (inr none))
keep_boxed kind first s _ h _ w (queue_wait _ m b _ _ at none _) = refills s m b w.boxed at _ b.receivers (inr none)
keep_boxed kind first s _ h _ w (hand _ m b _ _ rs _ at none _ _ _ _) = refills s m b w.boxed at b.messages rs (inl none)
keep_boxed kind first s _ h _ w (waken _ _ _ _ _ _) = w.boxed
keep_boxed kind first s _ h _ w (give_up t _ m b _ _ at) =
    refills s m b w.boxed at b.messages (removed t b.receivers) (⊎_elim inl (λ e. inr (ap (removed t) e)) (w.boxed m b at.here).apart)
keep_boxed kind first s _ h _ w (withdraw _ _ m b n _ _ at) =
    refills s m b w.boxed at (unqueued n b.messages) b.receivers (⊎_elim (λ e. inl (ap (unqueued n) e)) inr (w.boxed m b at.here).apart)

pub first_boxed : (n : ℕ) → Boxed (initial n).mailboxes
first_boxed n m b e = let z : ◌≡◌ {A = ℕ} 0 1 = cc in absurd (omega arith)
