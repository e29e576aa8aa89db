-- A put that is known to fit once a message has gone, and a change of a mailbox that its receivers do not notice.
use Rattle.std.proofs.Common.{◌≡◌, ℕ, ◌+◌, ◌-◌, Bool, true, false, cond, not, ◌||◌, eqb, ltb, nat_lt, List, [], ◌∷◌, ◌++◌, length, is_some, Some, None, Ok, Err, Option, Result, sym, refl, ap, ◌∙◌, subst, arith}
use Rattle.std.proofs.lemmas.Bool.{eq-eqb}
use Rattle.store.specs.declared.fault.StoreFault.{StoreFault}
use Rattle.store.specs.declared.fault.Layer.TheVariants.{Store}
use Rattle.store.specs.Meaning.{Contents, with, without, units_in, full_row, put_rows, put_answer, discard_rows}
use Rattle.store.specs.Refusal.{row, tried, outcome}
use Rattle.answers.specs.declared.answer.Counts.{Counts}
use Rattle.art.specs.declared.task.Message.{Message}
use Rattle.answers.specs.Counts.{count_displaced}
use Rattle.art.specs.State.{Kind, Mailbox, State, changed, top, with_store}
use Rattle.art.specs.Verbs.{edited, mailbox_at, mailbox_in, oldest, unqueue_oldest, use_number}
use Rattle.art.specs.Rules.{Effect, Reply, arrive, displace, numbers_spent, store_rows}
use Rattle.art.proofs.Tried.{accepted_by, passes}
use Rattle.engine.specs.Model.{Gives, numbered}

pub outcome_ok : (r : Result (Unit {0}) StoreFault) (y : Unit {0}) → outcome r ≡ Ok y → r ≡ Ok y
outcome_ok (Ok z) y e = refl
outcome_ok (Err f) y e = let z : ◌≡◌ {A = ℕ} 0 1 = cc in absurd (omega arith)

-- nothing is held under n where other bytes have gone
still_none : (h : Contents) (x n : ℕ) → is_some (h n) ≡ false → is_some (without h x n) ≡ false
still_none h x n e = by (eqb n x)
  where
    by : (b : Bool) → is_some (cond b None (h n)) ≡ false
    by true = refl
    by false = e

pub fits : (capacity : ℕ) (cost : ℕ → ℕ) (h : Contents) (used n x : ℕ) (bytes : List ℕ) (y : Unit {0}) → tried (discard_rows h x ++ put_rows capacity cost h used n bytes) y ≡ Ok y → put_answer capacity cost (without h x) used n bytes ≡ Ok tt
fits capacity cost h used n x bytes y e =
    let bad = eqb (length bytes) 0 || ltb 128 (length bytes) in
    let full = full_row n (cost (length bytes)) (capacity - used) (ltb capacity (used + cost (length bytes))) in
    let p = passes y (row 19 Store x (not (is_some (h x)))) (put_rows capacity cost h used n bytes) y e in
    let q = passes y (row 17 Store n bad) (row 18 Store n (is_some (h n)) ∷ full ∷ []) y p.1 in
    let r = passes y (row 18 Store n (is_some (h n))) (full ∷ []) y q.1 in
    let t = passes y full [] y r.1 in
    rw (q.0, still_none h x n r.0, t.0)

-- the receivers of a mailbox do not change with its queue
same_receivers : (boxes : ℕ → Option Mailbox) (m : ℕ) → (mailbox_in (changed boxes m (edited unqueue_oldest (boxes m)) m)).receivers ≡ (mailbox_in (boxes m)).receivers
same_receivers boxes m = rw (eq-eqb m m refl) (by (boxes m))
  where
    by : (b : Option Mailbox) → (mailbox_in (edited unqueue_oldest b)).receivers ≡ (mailbox_in b).receivers
    by None = refl
    by (Some b) = refl

-- a number that is left is the next
pub is_next : (s : State) (n : ℕ) → tried (numbers_spent s ∷ []) s.next ≡ Ok n → (n ≡ s.next) × (nat_lt top s.next ≡ false)
is_next s n e =
    let p = passes s.next (numbers_spent s) [] n e in
    (cc, p.0)

module _ (kind : Kind) (s : State) (m : ℕ) (bytes : List ℕ) (x : Message) where
  -- the state once the message has gone and the bytes are held
  abbrev pub made_room : State
  made_room = with_store (displace kind s m (Some x)) (with (without s.held x.number) s.next bytes) (s.used - units_in kind.cost (s.held x.number) + kind.cost (length bytes))

  -- the same, part by part
  pub displaced_state : (boxes : ℕ → Option Mailbox) (h : Contents) (u : ℕ) (c : Counts) → boxes ≡ changed s.mailboxes m (edited unqueue_oldest (s.mailboxes m)) → h ≡ with (without s.held x.number) s.next bytes → u ≡ s.used - units_in kind.cost (s.held x.number) + kind.cost (length bytes) → c ≡ count_displaced s.counts → ◌≡◌ {A = State} (record { counter = s.counter; next = s.next; tasks = s.tasks; mailboxes = boxes; ready = s.ready; held = h; used = u; counts = c }) made_room
  displaced_state boxes h u c p q r t = cc

  -- a displacing send that has a number, and that the store takes
  pub displacing_gives : (mid last : State) (r : Reply) (n : ℕ) (y : Unit {0}) → (n ≡ s.next) × (nat_lt top s.next ≡ false) → tried (store_rows kind s bytes (Some x)) y ≡ Ok y → mid ≡ made_room → Gives (arrive kind (use_number mid) m n None (Some x.number) (oldest (mailbox_at mid m).receivers)) r [] last → Gives (numbered kind s m bytes None (Some x)) r [] last
  displacing_gives mid last r n y next ok is g =
      let rest = arrive kind (use_number made_room) m s.next None (Some x.number) (oldest (mailbox_at s m).receivers) in
      let a : arrive kind (use_number mid) m n None (Some x.number) (oldest (mailbox_at mid m).receivers) ≡ rest =
      ap (λ z. arrive kind (use_number z) m n None (Some x.number) (oldest (mailbox_at z m).receivers)) is
      ∙ ap (λ k. arrive kind (use_number made_room) m k None (Some x.number) (oldest (mailbox_at made_room m).receivers)) next.0
      ∙ ap (λ z. arrive kind (use_number made_room) m s.next None (Some x.number) (oldest z)) (same_receivers s.mailboxes m) in
      rw next.1 (subst (λ (z : Effect). Gives z r [] last) (a ∙ sym (accepted_by y s [] (store_rows kind s bytes (Some x)) rest y ok)) g)
