-- Of the store's refusals a call meets STORE_FULL alone, and a send that displaces a message not even that.
use Rattle.std.proofs.Common.{◌≡◌, ℕ, zero, suc, ◌+◌, ◌-◌, ◌<◌, ◌≤◌, true, false, cond, not, ◌||◌, eqb, ltb, List, [], ◌∷◌, map, length, take, drop, is_some, Some, None, Option, sym, refl, ap, ◌∙◌, subst, ⊎_elim, arith}
use Rattle.std.specs.List.{AllByRecursion}
use Rattle.std.proofs.lemmas.Bool.{both_ways, cases_lt, cond_both, eqb-true, le-ltb, leb-true, ltb-false, ltb-true, ne_eqb, not-false, not-true, or_from, true≢false}
use Rattle.store.specs.Meaning.{Contents, bytes_in, units_in, put_rows, copy_rows}
use Rattle.store.specs.Refusal.{Row}
use Rattle.art.specs.declared.task.Due.{Due}
use Rattle.art.specs.declared.task.Due.TheVariants.{Sent, Given, Plain}
use Rattle.art.specs.declared.task.Message.{Message}
use Rattle.art.specs.declared.task.Task.{Task}
use Rattle.art.specs.State.{Kind, Mailbox, State, running}
use Rattle.art.specs.Verbs.{due_of, fills, accept, mailbox_at, mailbox_in, oldest}
use Rattle.art.specs.Rules.{Effect, unless, answer_due, create_task_rows, terminate_rows, create_mailbox_rows, remove_mailbox_rows, arrive, displace, displaced_at, number_in, store_rows, send_wait_rows, send_no_wait_rows, take_rows, receive, receive_wait_rows, receive_no_wait_rows, wait_rows, set_deadline_rows, collect_rows, collected}
use Rattle.art.specs.Record.{Line, CreateTask, CreateMailbox, Run, Terminate, RemoveMailbox, SendWait, SendNoWait, ReceiveWait, ReceiveNoWait, Wait, Collect, SetDeadline, SetTicks, Ticks, Deadline, Running, Tick, Close, effect}
use Rattle.law.specs.History.{History, of_option}
use Rattle.law.specs.Law.{sum_of, count, holds, queued, refusal_in, stores_own}
use Rattle.law.proofs.Counting.{count_self, in_mailbox, in_task}
use Rattle.law.proofs.Turn.{At}
use Rattle.law.proofs.Sound.{Sound, QueuedAt, SentAs, Shaped, numbers, gift}
use Rattle.law.proofs.Rows.{Clear, Tries, refusals}
use Rattle.law.proofs.Unique.{unique}

-- Tables of rows

-- P holds of the number of each refusal that is met
abbrev Mild : (ℕ → Type 0) → List Row → Type 0
Mild P rows = Tries (λ t. P t.number) rows

-- the first k rows are none of the store's
abbrev Low : ℕ → List Row → Type 0
Low zero rows = Unit {0}
Low (suc k) [] = Unit {0}
Low (suc k) (r ∷ rows) = (r.tells.number < 17) × Low k rows

-- what is held is copied into a buffer with room for it
copies : (P : ℕ → Type 0) (c : Contents) (n : ℕ) (buffer : List ℕ) → c n ≡ Some (bytes_in (c n)) → length (bytes_in (c n)) ≤ length buffer → Mild P (copy_rows c n buffer)
copies P c n buffer e l =
    (λ q. absurd (both_ways (is_some (c n)) (not-true (is_some (c n)) q) (ap is_some e)), λ _. (λ q. absurd (omega (arith, ltb-true (length buffer) (length (bytes_in (c n))) q)), λ _. tt))

-- Options

none_held : (o : Option (List ℕ)) → holds o ≡ 0 → is_some o ≡ false
none_held None e = refl
none_held (Some bytes) e = absurd (omega arith)

some_held : (o : Option (List ℕ)) → 1 ≤ holds o → o ≡ Some (bytes_in o)
some_held None l = absurd (omega arith)
some_held (Some bytes) l = refl

in_use : (o : Option Mailbox) → not (is_some o) ≡ false → o ≡ Some (mailbox_in o)
in_use None e = absurd (true≢false e)
in_use (Some b) e = refl

-- a message that a task has due is a gift
due_gift : (o : Option Task) (n : ℕ) → due_of o ≡ Some (Given n) → 1 ≤ count n (of_option o gift)
due_gift None n e = let z : ◌≡◌ {A = ℕ} 0 1 = cc in absurd (omega arith)
due_gift (Some x) n e = subst (λ (d : Option Due). 1 ≤ count n (gift (record { urgency = x.urgency; activity = x.activity; due = d }))) (sym e) (omega (arith, count_self n []))

-- Accepted calls

arrive_accepts : (kind : Kind) (s : State) (m n : ℕ) (sender d receiver : Option ℕ) → refusal_in (arrive kind s m n sender d receiver).reply ≡ 0
arrive_accepts kind s m n (Some t) d None = refl
arrive_accepts kind s m n (Some t) d (Some r) = refl
arrive_accepts kind s m n None d None = refl
arrive_accepts kind s m n None d (Some r) = refl

receive_accepts : (kind : Kind) (s : State) (m : ℕ) (buffer : List ℕ) (o : Option Message) → refusal_in (receive kind s m buffer o).reply ≡ 0
receive_accepts kind s m buffer None = refl
receive_accepts kind s m buffer (Some x) = refl

collect_accepts : (kind : Kind) (s : State) (buffer : List ℕ) (o : Option Due) → refusal_in (collected kind s buffer o).reply ≡ 0
collect_accepts kind s buffer None = refl
collect_accepts kind s buffer (Some (Sent st n)) = refl
collect_accepts kind s buffer (Some (Given n)) = refl
collect_accepts kind s buffer (Some (Plain st)) = refl

module _ (kind : Kind) (first : ℕ) (s : State) (h : History) (w : Sound kind first s h) where
  next_free : is_some (s.held s.next) ≡ false
  next_free = none_held (s.held s.next) (omega (arith, w.balanced.new s.next (omega arith), w.balanced.parted s.next, w.balanced.fetched s.next, w.balanced.stored s.next))

  given_held : (t n : ℕ) → due_of (s.tasks t) ≡ Some (Given n) → s.held n ≡ Some (bytes_in (s.held n))
  given_held t n e = some_held (s.held n) (omega (arith, due_gift (s.tasks t) n e, w.balanced.stored n, in_task (λ x. cond (eqb n x) 1 0) gift s.tasks t small))
    where
      small : t < 64
      small = ⊎_elim (λ l. l) (λ (l : 64 ≤ t). absurd (omega (arith, due_gift (s.tasks t) n e, ap (λ o. count n (of_option o gift)) (w.tasked.range t l)))) (cases_lt t 64)

  module _ (m : ℕ) (b : Mailbox) (box : At s m b) where
    shape : Shaped b
    shape = w.boxed m b box.here

    -- the oldest message
    module _ (y : Message) (ys : List Message) (is : b.messages ≡ y ∷ ys) where
      -- its part of a sum over the messages queued
      part : (f : ℕ → ℕ) → f y.number ≤ sum_of f (queued s)
      part f = omega (arith, in_mailbox f numbers s.mailboxes m box.small, ap (λ o. sum_of f (of_option o numbers)) box.here, ap (λ l. sum_of f (map (λ x. x.number) l)) is)

      oldest_held : s.held y.number ≡ Some (bytes_in (s.held y.number))
      oldest_held = some_held (s.held y.number) (omega (arith, part (λ x. cond (eqb y.number x) 1 0), count_self y.number [], w.balanced.stored y.number))

      oldest_long : length (bytes_in (s.held y.number)) ≡ b.size
      oldest_long = go (subst (AllByRecursion (QueuedAt h m b.size)) is (w.traced.of_queued m b box.here)).0 (w.traced.of_held y.number (bytes_in (s.held y.number)) oldest_held)
        where
          go : QueuedAt h m b.size y → SentAs h y.number (bytes_in (s.held y.number)) → length (bytes_in (s.held y.number)) ≡ b.size
          go q r =
              ap length (sym r.carried)
              ∙ ap (λ a. length a.bytes) (unique h.accepted r.sending q.sending r.was_accepted q.was_accepted (r.number ∙ sym q.number) (w.balanced.once r.sending.number))
              ∙ q.long

      -- with its units free again the store has room for a message as long
      oldest_room : (bytes : List ℕ) → length bytes ≡ b.size → (s.used - units_in kind.cost (s.held y.number)) + kind.cost (length bytes) ≤ kind.capacity
      oldest_room bytes l =
          omega (arith, w.balanced.units, w.balanced.room, part (λ k. units_in kind.cost (s.held k)), ap (units_in kind.cost) oldest_held, ap kind.cost oldest_long, ap kind.cost l)

    module _ (P : ℕ → Type 0) where
      takes : (buffer : List ℕ) → b.size ≤ length buffer → (ms : List Message) → b.messages ≡ ms → Mild P (take_rows s buffer (oldest ms))
      takes buffer l [] is = tt
      takes buffer l (y ∷ ys) is = copies P s.held y.number buffer (oldest_held y ys is) (omega (arith, oldest_long y ys is))

      module _ (bytes : List ℕ) (fits : length bytes ≡ b.size) where
        allowed : (eqb (length bytes) 0 || ltb 128 (length bytes)) ≡ false
        allowed = or_from (eqb (length bytes) 0) (ltb 128 (length bytes)) (ne_eqb (length bytes) 0 (λ e. omega (arith, shape.some))) (le-ltb 128 (length bytes) (omega (arith, shape.small)))

        puts : (used : ℕ) → (kind.capacity < used + kind.cost (length bytes) → P 20) → Mild P (put_rows kind.capacity kind.cost s.held used s.next bytes)
        puts used full = (
          λ e. absurd (both_ways (eqb (length bytes) 0 || ltb 128 (length bytes)) allowed e),
          λ _. (
            λ e. absurd (both_ways (is_some (s.held s.next)) next_free e),
            λ _. (λ e. full (ltb-true kind.capacity (used + kind.cost (length bytes)) e), λ _. tt),
          ),
        )

        -- a send that displaces the oldest message
        displaces : (ms : List Message) → b.messages ≡ ms → b.capacity ≤ length b.messages → Mild P (store_rows kind s bytes (oldest ms))
        displaces [] is l = absurd (omega (arith, ap length is, shape.room))
        displaces (y ∷ ys) is l = (
          λ e. absurd (both_ways (is_some (s.held y.number)) (not-true (is_some (s.held y.number)) e) (ap is_some (oldest_held y ys is))),
          λ _. puts (s.used - units_in kind.cost (s.held y.number)) (λ more. absurd (omega (arith, oldest_room y ys is bytes fits))),
        )

        stores : (fills b b.messages ≡ false → P 20) → Mild P (store_rows kind s bytes (cond (fills b b.messages) (oldest b.messages) None))
        stores full = cond_both (fills b b.messages) (oldest b.messages) None (λ o. Mild P (store_rows kind s bytes o))
            (λ e. displaces b.messages refl (leb-true b.capacity (length b.messages) e)) (λ e. puts s.used (λ _. full e))

  -- what holds of 0 and of the numbers that are not the store's holds of the refusal of each call
  module _ (P : ℕ → Type 0) (low : (n : ℕ) → n < 17 → P n) where
    behind : (k : ℕ) (rows : List Row) → Low k rows → (Clear (take k rows) → Mild P (drop k rows)) → Mild P rows
    behind zero rows l f = f tt
    behind (suc k) [] l f = tt
    behind (suc k) (r ∷ rows) l f = (λ _. low r.tells.number l.0, λ e. behind k rows l.1 (λ c. f (e, c)))

    called : (buffer : List ℕ) (rows : List Row) (rest : Effect) → Mild P rows → refusal_in rest.reply ≡ 0 → P (refusal_in (unless s buffer rows rest).reply)
    called buffer rows rest good e = refusals (λ t. P t.number) s buffer rows rest good (λ r. P (refusal_in r)) (λ _ p. p) (subst P (sym e) (low 0 (omega arith)))

    module _ (m : ℕ) where
      -- what the rows 4 and 8, 10, and 11 let through
      box_at : ltb 31 m ≡ false → not (is_some (s.mailboxes m)) ≡ false → At s m (mailbox_at s m)
      box_at four eight = record { small = omega (arith, ltb-false 31 m four); here = in_use (s.mailboxes m) eight }

      fits_at : (bytes : List ℕ) → not (eqb (length bytes) (mailbox_at s m).size) ≡ false → length bytes ≡ (mailbox_at s m).size
      fits_at bytes ten = eqb-true (length bytes) (mailbox_at s m).size (not-false (eqb (length bytes) (mailbox_at s m).size) ten)

      takes_at : (buffer : List ℕ) → ltb 31 m ≡ false → not (is_some (s.mailboxes m)) ≡ false → ltb (length buffer) (mailbox_at s m).size ≡ false
          → Mild P (take_rows s buffer (oldest (mailbox_at s m).messages))
      takes_at buffer four eight eleven = takes m (mailbox_at s m) (box_at four eight) P buffer (ltb-false (length buffer) (mailbox_at s m).size eleven) (mailbox_at s m).messages refl

      of_send_wait : (bytes : List ℕ) → P 20 → P (refusal_in (effect kind s (SendWait m bytes)).reply)
      of_send_wait bytes full = called [] (send_wait_rows kind s m bytes) _
          (behind 8 (send_wait_rows kind s m bytes) (omega arith)
          (λ (_, (_, (four, (eight, (ten, _))))). puts m (mailbox_at s m) (box_at four eight) P bytes (fits_at bytes ten) s.used (λ _. full)))
          (arrive_accepts kind (accept kind s bytes) m s.next (Some (running s)) None (oldest (mailbox_at s m).receivers))

      of_send_no_wait : (bytes : List ℕ) → (fills (mailbox_at s m) (mailbox_at s m).messages ≡ false → P 20) → P (refusal_in (effect kind s (SendNoWait m bytes)).reply)
      of_send_no_wait bytes full = called [] (send_no_wait_rows kind s m bytes) _
          (behind 6 (send_no_wait_rows kind s m bytes) (omega arith) (λ (_, (four, (eight, (ten, _)))). stores m (mailbox_at s m) (box_at four eight) P bytes (fits_at bytes ten) full))
          (arrive_accepts kind (accept kind (displace kind s m (displaced_at s m)) bytes) m s.next None (number_in (displaced_at s m)) (oldest (mailbox_at s m).receivers))

      of_receive_wait : (buffer : List ℕ) → P (refusal_in (effect kind s (ReceiveWait m buffer)).reply)
      of_receive_wait buffer = called buffer (receive_wait_rows s m buffer) _
          (behind 6 (receive_wait_rows s m buffer) (omega arith) (λ (_, (_, (four, (eight, (eleven, _))))). takes_at buffer four eight eleven))
          (receive_accepts kind s m buffer (oldest (mailbox_at s m).messages))

      of_receive_no_wait : (buffer : List ℕ) → P (refusal_in (effect kind s (ReceiveNoWait m buffer)).reply)
      of_receive_no_wait buffer = called buffer (receive_no_wait_rows s m buffer) _
          (behind 5 (receive_no_wait_rows s m buffer) (omega arith) (λ (_, (four, (eight, (eleven, _)))). takes_at buffer four eight eleven))
          (receive_accepts kind s m buffer (oldest (mailbox_at s m).messages))

    collects : (buffer : List ℕ) (o : Option Due) → due_of (s.tasks (running s)) ≡ o → Mild P (collect_rows s buffer o)
    collects buffer None is = behind 1 (collect_rows s buffer None) (omega arith) (λ _. tt)
    collects buffer (Some (Sent st n)) is = tt
    collects buffer (Some (Plain st)) is = tt
    collects buffer (Some (Given n)) is = behind 1 (collect_rows s buffer (Some (Given n))) (omega arith)
        (λ (eleven, _). copies P s.held n buffer (given_held (running s) n is) (ltb-false (length buffer) (length (bytes_in (s.held n))) eleven))

    -- P 20 for STORE_FULL
    of_line : P 20 → (l : Line) → P (refusal_in (effect kind s l).reply)
    of_line full (CreateTask t d l) = called [] (create_task_rows s t l) _ (behind 4 (create_task_rows s t l) (omega arith) (λ _. tt)) refl
    of_line full (CreateMailbox m c z) = called [] (create_mailbox_rows s m c z) _ (behind 4 (create_mailbox_rows s m c z) (omega arith) (λ _. tt)) refl
    of_line full Run = low 0 (omega arith)
    of_line full Terminate = called [] (terminate_rows s) _ (behind 2 (terminate_rows s) (omega arith) (λ _. tt)) refl
    of_line full (RemoveMailbox m) = called [] (remove_mailbox_rows s m) _ (behind 4 (remove_mailbox_rows s m) (omega arith) (λ _. tt)) refl
    of_line full (SendWait m bytes) = of_send_wait m bytes full
    of_line full (SendNoWait m bytes) = of_send_no_wait m bytes (λ _. full)
    of_line full (ReceiveWait m buffer) = of_receive_wait m buffer
    of_line full (ReceiveNoWait m buffer) = of_receive_no_wait m buffer
    of_line full (Wait n) = called [] (wait_rows s n) _ (behind 3 (wait_rows s n) (omega arith) (λ _. tt)) refl
    of_line full (Collect buffer) =
        called buffer (collect_rows s buffer (due_of (s.tasks (running s)))) _ (collects buffer (due_of (s.tasks (running s))) refl) (collect_accepts kind s buffer (due_of (s.tasks (running s))))
    of_line full (SetDeadline d) = called [] (set_deadline_rows s) _ (behind 2 (set_deadline_rows s) (omega arith) (λ _. tt)) refl
    of_line full (SetTicks n) = called [] (answer_due s ∷ []) _ (behind 1 (answer_due s ∷ []) (omega arith) (λ _. tt)) refl
    of_line full Ticks = low 0 (omega arith)
    of_line full Deadline = low 0 (omega arith)
    of_line full Running = low 0 (omega arith)
    of_line full Tick = low 0 (omega arith)
    of_line full Close = low 0 (omega arith)

-- no line is refused with one of the store's own refusals
pub listed_holds : (kind : Kind) (first : ℕ) (s : State) (h : History) → Sound kind first s h → (l : Line) → AllByRecursion (λ number. refusal_in (effect kind s l).reply ≡ number → ⊥) stores_own
listed_holds kind first s h w l = of_line kind first s h w (λ k. AllByRecursion (λ number. k ≡ number → ⊥) stores_own) (λ n less. omega arith) (omega arith) l

-- a send that finds its mailbox full of messages is not refused with STORE_FULL
pub displacing_holds : (kind : Kind) (first : ℕ) (s : State) (h : History) → Sound kind first s h → (m : ℕ) (bytes : List ℕ)
    → fills (mailbox_at s m) (mailbox_at s m).messages ≡ true → refusal_in (effect kind s (SendNoWait m bytes)).reply ≡ 20 → ⊥
displacing_holds kind first s h w m bytes full =
    of_send_no_wait kind first s h w (λ k. k ≡ 20 → ⊥) (λ n less. omega arith) m bytes (λ e. absurd (both_ways (fills (mailbox_at s m) (mailbox_at s m).messages) e full))
