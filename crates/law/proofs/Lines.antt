-- Each line is a turn, but for a tick, which is one for each task.
use Rattle.std.proofs.Common.{◌≡◌, ℕ, ◌+◌, ◌-◌, Bool, true, false, cond, not, ◌||◌, eqb, ltb, ◌⊎◌, List, [], ◌∷◌, ◌++◌, length, drop, is_some, Some, None, Ok, Option, sym, refl, ap, ◌∙◌, subst, subst₂, inl, inr, ⊎_elim, arith}
use Rattle.std.proofs.lemmas.Bool.{eqb-true, eqb-false, ltb-false, or_parts, and_parts, not-false}
use Rattle.store.specs.Meaning.{bytes_in, units_in, put_rows, discard_rows}
use Rattle.answers.specs.declared.answer.Status.TheVariants.{Ok as OK}
use Rattle.art.specs.declared.task.Activity.TheVariants.{Receiving, Sending, Asleep}
use Rattle.art.specs.declared.task.Due.{Due}
use Rattle.art.specs.declared.task.Due.TheVariants.{Sent, Given, Plain}
use Rattle.art.specs.declared.task.Event.{Event}
use Rattle.art.specs.declared.task.Event.TheVariants.{HandOver}
use Rattle.art.specs.declared.task.Message.{Message}
use Rattle.art.specs.declared.task.Task.{Task}
use Rattle.answers.specs.Counts.{count_handed_over, count_displaced}
use Rattle.art.specs.State.{Kind, Mailbox, State, top, last_task, running, changed, with_task, with_mailbox, with_ready, with_counts}
use Rattle.art.specs.Verbs as verbs
use Rattle.art.specs.Verbs.{due_of, due_after, doing, with_deadline, removed, enter, rouse, wake, wake_task, wakes, edited, edit_mailbox, unqueue_oldest, leave_oldest, leave_receivers, join_receivers, queue, unqueue, is_empty, mailbox_in, mailbox_at, oldest, other_mode, release, accept, with_messages, with_receivers, take_out, wake_sender, choose, others}
use Rattle.art.specs.Rules as rules
use Rattle.art.specs.Rules.{Effect, Reply, Answered, accepted, arrive, bringing, collect_rows, collected, create_mailbox_rows, create_task_rows, displaced_at, displacing, number_in, plain, receive, receive_no_wait_rows, receive_wait_rows, remove_mailbox_rows, send_no_wait_rows, send_wait_rows, set_deadline_rows, store_rows, take_rows, terminate_rows, wait_rows, answer_due, tick_task, ticked, visited, numbers_from}
use Rattle.art.specs.Record.{Line, CreateTask, CreateMailbox, Run, Terminate, RemoveMailbox, SendWait, SendNoWait, ReceiveWait, ReceiveNoWait, Wait, Collect, SetDeadline, SetTicks, Ticks, Deadline, Running, Tick, Close, effect}
use Rattle.law.specs.History as past
use Rattle.law.specs.History.{Created, Ended, History, deliveries, latest, notices, of_answer, of_option, waited_till, waits_with, with_line}
use Rattle.law.proofs.Counting.{changed_same}
use Rattle.law.proofs.Rows.{Clear, tabled, clear_parts, none_from, some_unless_none, nil_from}
use Rattle.law.proofs.Sound.{Sound}
use Rattle.law.proofs.Known.{runs, sender_waits, receiver_waits}
use Rattle.law.proofs.Turn

-- The first of a list, and the answer due to a task

oldest_none : {A : Type 0} (xs : List A) → oldest xs ≡ None → xs ≡ []
oldest_none [] e = refl
oldest_none (x ∷ xs) e = let z : ◌≡◌ {A = ℕ} 0 1 = cc in absurd (omega arith)

oldest_some : {A : Type 0} (xs : List A) (y : A) → oldest xs ≡ Some y → xs ≡ y ∷ others xs
oldest_some [] y e = let z : ◌≡◌ {A = ℕ} 0 1 = cc in absurd (omega arith)
oldest_some (x ∷ xs) y e = let q : x ≡ y = cc in ap (λ z. z ∷ xs) q

due_some : (o : Option Task) (d : Due) → due_of o ≡ Some d → (x : Task) × (o ≡ Some x) × (x.due ≡ Some d)
due_some None d e = let z : ◌≡◌ {A = ℕ} 0 1 = cc in absurd (omega arith)
due_some (Some x) d e = (x, refl, e)

-- a task that an event concerns becomes ready
pub woken : (kind : Kind) (s : State) (t : ℕ) (e : Event) (x : Task) (d : Due) → s.tasks t ≡ Some x → due_after x.urgency.deadline x.activity e ≡ Some d → wake kind s t e ≡ rouse kind s t x (Some d)
woken kind s t e x d p q = ap (wake_task kind s t e) p ∙ ap (rouse kind s t x) q

module _ (kind : Kind) (first : ℕ) (s : State) (h : History) (w : Sound kind first s h) where
  abbrev Into : (Effect → History) → Effect → Type 0
  Into after e = Turn.Turn kind s h e.state (after e)

  -- the running task, where it may block
  free : (e : is_some (due_of (s.tasks (running s))) ≡ false) → eqb (running s) 0 ≡ false → (x : Task) × Turn.Runs s x
  free e b = runs kind first s h w (eqb-false (running s) 0 b) (none_from (due_of (s.tasks (running s))) e)

  turn_create_task : (t d l : ℕ) → Into (λ e. past.lived (Created t) e.reply h) (rules.create_task kind s t d l)
  turn_create_task t d l = tabled (Into (λ e. past.lived (Created t) e.reply h)) s [] (create_task_rows s t l) _ (λ _. Turn.stay) (λ c.
      let q = or_parts (eqb t 0) (ltb last_task t) c.1.0 in
      Turn.create t (record { deadline = d; level = l }) (eqb-false t 0 q.0) (ltb-false last_task t q.1) (none_from (s.tasks t) c.1.1.1.0))

  turn_terminate : Into (λ e. past.lived (Ended (running s)) e.reply h) (rules.terminate s)
  turn_terminate = tabled (Into (λ e. past.lived (Ended (running s)) e.reply h)) s [] (terminate_rows s) _ (λ _. Turn.stay) (λ c.
      let r = free c.0 c.1.0 in Turn.finish r.0 r.1)

  abbrev Quiet : Effect → Type 0
  Quiet = Into (λ _. h)

  turn_create_mailbox : (m c z : ℕ) → Quiet (rules.create_mailbox s m c z)
  turn_create_mailbox m c z = tabled Quiet s [] (create_mailbox_rows s m c z) _ (λ _. Turn.stay) (λ k.
      let shape = or_parts (eqb c 0 || ltb 16 c) (eqb z 0 || ltb 128 z) k.1.1.0 in
      let entries = or_parts (eqb c 0) (ltb 16 c) shape.0 in let size = or_parts (eqb z 0) (ltb 128 z) shape.1 in
      Turn.open_box m c z (omega (arith, ltb-false 31 m k.1.0)) (none_from (s.mailboxes m) k.1.1.1.0)
      (omega (arith, eqb-false c 0 entries.0)) (omega (arith, eqb-false z 0 size.0)) (ltb-false 128 z size.1))

  -- a mailbox that rows find in use
  found : (m : ℕ) → ltb 31 m ≡ false → not (is_some (s.mailboxes m)) ≡ false → (b : Mailbox) × Turn.At s m b
  found m l e = let p = some_unless_none (s.mailboxes m) e in (p.0, record { small = omega (arith, ltb-false 31 m l); here = p.1 })

  turn_remove_mailbox : (m : ℕ) → Quiet (rules.remove_mailbox s m)
  turn_remove_mailbox m = tabled Quiet s [] (remove_mailbox_rows s m) _ (λ _. Turn.stay) (λ k.
      let f = found m k.1.0 k.1.1.0 in let b = f.0 in
      let both = and_parts (is_empty (mailbox_at s m).messages) (is_empty (mailbox_at s m).receivers) (not-false _ k.1.1.1.0) in
      Turn.close_box m b f.1 (sym (ap (λ o. (mailbox_in o).messages) f.1.here) ∙ nil_from _ both.0) (sym (ap (λ o. (mailbox_in o).receivers) f.1.here) ∙ nil_from _ both.1))

  turn_wait : (n : ℕ) → Quiet (rules.wait s n)
  turn_wait n = tabled Quiet s [] (wait_rows s n) _ (λ _. Turn.stay) (λ c.
      let r = free c.0 c.1.0 in
      subst (λ o. Turn.Turn kind s h (with_ready (with_task s (running s) o) (removed (running s) s.ready)) h) (sym (ap (doing (Asleep (s.counter + n))) r.1.here)) (Turn.sleep r.0 (s.counter + n) r.1))

  turn_set_deadline : (d : ℕ) → Quiet (rules.set_deadline kind s d)
  turn_set_deadline d = tabled Quiet s [] (set_deadline_rows s) _ (λ _. Turn.stay) (λ c.
      let r = free c.0 c.1.0 in
      subst (λ o. Turn.Turn kind s h (enter kind (with_ready (with_task s (running s) o) (removed (running s) s.ready)) (running s)) h) (sym (ap (with_deadline d) r.1.here)) (Turn.hurry r.0 d r.1))

  turn_set_ticks : (n : ℕ) → Quiet (rules.set_ticks s n)
  turn_set_ticks n = tabled Quiet s [] (answer_due s ∷ []) _ (λ _. Turn.stay) (λ _. Turn.clock n)

  -- Receives

  module _ (m : ℕ) (buffer : List ℕ) where
    abbrev Received : Effect → Type 0
    Received = Into (λ e. past.received (running s) m buffer e.buffer e.reply h)

    module _ (b : Mailbox) (here : Turn.At s m b) where
      -- the mailbox as the rules name it
      messages_at : (mailbox_at s m).messages ≡ b.messages
      messages_at = ap (λ o. (mailbox_in o).messages) here.here

      -- a receive, once the mailbox is resolved to v and the bytes to q
      abbrev Taking : Message → Option Mailbox → Option (List ℕ) → Type 0
      Taking y v q =
          Turn.Turn kind s h (wake_sender kind (with_counts (with_mailbox (release kind s y.number) m v) (count_handed_over s.counts)) y y.sender)
          (past.received (running s) m buffer (bytes_in q ++ drop (length (bytes_in q)) buffer) (Answered (Ok (bringing y.number (length (bytes_in q))))) h)

      turn_taken : (y : Message) (ys : List Message) (bytes : List ℕ) → Turn.Oldest s m b y ys bytes → Taking y (Some (with_messages b ys)) (Some bytes)
      turn_taken y ys bytes o = go y.sender refl
        where
          go : (sender : Option ℕ) → y.sender ≡ sender
              → Turn.Turn kind s h (wake_sender kind (Turn.after_take kind s m b y ys) y sender) (Turn.with_brought (running s) y.number bytes buffer (Turn.with_handed_over m y.number (running s) h))
          go None e = Turn.take_plain m b y ys bytes buffer o e
          go (Some t) e =
              let p = sender_waits kind first s h w m b here.here y ys o.first t e in
              subst (λ z. Turn.Turn kind s h z (Turn.with_brought (running s) y.number bytes buffer (Turn.with_handed_over m y.number (running s) h)))
              (sym (woken kind (Turn.after_take kind s m b y ys) t (HandOver y.number) p.0 (Sent OK y.number) p.1 (ap (λ a. due_after p.0.urgency.deadline a (HandOver y.number)) p.2)))
              (Turn.take_wake m b y ys bytes buffer t p.0 o e p.1 p.2)

      turn_receive : (o : Option Message) → oldest (mailbox_at s m).messages ≡ o → Clear (take_rows s buffer o) → (o ≡ None → Received (receive kind s m buffer None)) → Received (receive kind s m buffer o)
      turn_receive None e c none = none refl
      turn_receive (Some y) e c none =
          let p = some_unless_none (s.held y.number) c.0 in
          let q = sym messages_at ∙ oldest_some (mailbox_at s m).messages y e in
          let ys : List Message = others (mailbox_at s m).messages in
          subst₂ (Taking y)
          (sym (ap (edited unqueue_oldest) here.here ∙ ap (λ l. Some (with_messages b (others l))) q)) (sym p.1)
          (turn_taken y ys p.0 (record { at = here; first = q; held = p.1 }))

      turn_await : (x : Task) → Turn.Runs s x → b.messages ≡ [] → Received (receive kind s m buffer None)
      turn_await x r e =
          subst₂ (λ v o. Turn.Turn kind s h (with_ready (with_task (with_mailbox s m v) (running s) o) (removed (running s) s.ready)) h)
          (sym (ap (edited (join_receivers (running s))) here.here)) (sym (ap (doing (Receiving m)) r.here))
          (Turn.await x m b r here e)

    turn_receive_wait : Received (rules.receive_wait kind s m buffer)
    turn_receive_wait = tabled Received s buffer (receive_wait_rows s m buffer) _ (λ _. Turn.stay) (λ c.
        let f = found m c.1.1.0 c.1.1.1.0 in let r = free c.0 c.1.0 in
        turn_receive f.0 f.1 (oldest (mailbox_at s m).messages) refl c.1.1.1.1.1.1
        (λ e. turn_await f.0 f.1 r.0 r.1 (sym (messages_at f.0 f.1) ∙ oldest_none (mailbox_at s m).messages e)))

    turn_receive_no_wait : Received (rules.receive_no_wait kind s m buffer)
    turn_receive_no_wait = tabled Received s buffer (receive_no_wait_rows s m buffer) _ (λ _. Turn.stay) (λ c.
        let f = found m c.1.0 c.1.1.0 in
        turn_receive f.0 f.1 (oldest (mailbox_at s m).messages) refl c.1.1.1.1.1
        (λ e. let z : is_empty (mailbox_at s m).messages ≡ true = ap is_empty (oldest_none (mailbox_at s m).messages e) in
        let y : ◌≡◌ {A = ℕ} 0 1 = cc c.1.1.1.1.0 in absurd (omega arith)))

  -- The answer due

  module _ (buffer : List ℕ) where
    abbrev Collected : Effect → Type 0
    Collected = Into (λ e. past.settled (running s) buffer e.buffer e.reply h)

    turn_collect : Collected (rules.collect kind s buffer)
    turn_collect = go (due_of (s.tasks (running s))) refl
      where
        go : (o : Option Due) → due_of (s.tasks (running s)) ≡ o → Collected (rules.unless s buffer (collect_rows s buffer o) (collected kind s buffer o))
        go None e = Turn.stay
        go (Some (Sent st n)) e =
            let p = due_some (s.tasks (running s)) (Sent st n) e in
            subst (λ o. Turn.Turn kind s h (with_task s (running s) o) (past.settled (running s) buffer buffer (Answered (Ok (rules.naming st n))) h)) (sym (ap verbs.settled p.1)) (Turn.tell p.0 st n p.1 p.2)
        go (Some (Plain st)) e =
            let p = due_some (s.tasks (running s)) (Plain st) e in
            subst (λ o. Turn.Turn kind s h (with_task s (running s) o) h) (sym (ap verbs.settled p.1)) (Turn.tell_plain p.0 st p.1 p.2)
        go (Some (Given n)) e = tabled Collected s buffer (collect_rows s buffer (Some (Given n))) (collected kind s buffer (Some (Given n))) (λ _. Turn.stay) (λ c.
            let p = due_some (s.tasks (running s)) (Given n) e in
            let q = some_unless_none (s.held n) c.1.0 in
            subst₂ (λ o (bytes : Option (List ℕ)). Turn.Turn kind s h (with_task (release kind s n) (running s) o) (past.settled (running s) buffer (bytes_in bytes ++ drop (length (bytes_in bytes)) buffer) (Answered (Ok (bringing n (length (bytes_in bytes))))) h))
            (sym (ap verbs.settled p.1)) (sym q.1) (Turn.fetch p.0 n q.0 buffer p.1 p.2 q.1))

  -- Sends

  module _ (m : ℕ) (bytes : List ℕ) where
    -- what a send adds, where the oldest receiver is o and the message d makes room
    abbrev sent_to : Option ℕ → Option ℕ → Option Message → Reply → History
    sent_to o sender d reply =
        record {
          lives = h.lives;
          accepted = of_answer reply (λ a. of_option a.message (λ n. record { mailbox = m; number = n; bytes = bytes; sender = sender } ∷ [])) ++ h.accepted;
          handed_over = of_answer reply (λ a. of_option a.message (λ n. of_option o (λ t. record { mailbox = m; number = n; receiver = t } ∷ []))) ++ h.handed_over;
          withdrawn = h.withdrawn;
          displaced = of_answer reply (λ _. of_option d (λ x. x.number ∷ [])) ++ h.displaced;
          told = of_answer reply (λ a. of_option sender (λ t. notices t a)) ++ h.told;
          brought = h.brought;
        }

    abbrev SentTo : Option ℕ → Option ℕ → Option Message → Effect → Type 0
    SentTo o sender d = Into (λ e. sent_to o sender d e.reply)

    module _ (b : Mailbox) (here : Turn.At s m b) where
      receivers_at : (mailbox_at s m).receivers ≡ b.receivers
      receivers_at = ap (λ o. (mailbox_in o).receivers) here.here

      -- what rows that do not hold tell of the store
      takes_bytes : (used : ℕ) → not (eqb (length bytes) (mailbox_at s m).size) ≡ false → ltb top s.next ≡ false → Clear (put_rows kind.capacity kind.cost s.held used s.next bytes) → Turn.Accepts kind s b bytes used
      takes_bytes used z n c = record {
        unspent = ltb-false top s.next n;
        fits = eqb-true (length bytes) (mailbox_at s m).size (not-false _ z) ∙ ap (λ o. (mailbox_in o).size) here.here;
        free = none_from (s.held s.next) c.1.0;
        room = ltb-false kind.capacity (used + kind.cost (length bytes)) c.1.1.0;
      }

      -- a receiver waits: it is given the message
      turn_hand : (sender : Option ℕ) (t : ℕ) → oldest (mailbox_at s m).receivers ≡ Some t → Turn.Accepts kind s b bytes s.used
          → SentTo (Some t) sender None (arrive kind (accept kind s bytes) m s.next sender None (Some t))
      turn_hand sender t e c =
          let q = sym receivers_at ∙ oldest_some (mailbox_at s m).receivers t e in
          let rs : List ℕ = others (mailbox_at s m).receivers in
          let p = receiver_waits kind first s h w m b here.here t rs q in
          let none : b.messages ≡ [] = ⊎_elim (λ z. z) (λ z. let y : ◌≡◌ {A = ℕ} 0 1 = cc in absurd (omega arith)) (w.boxed m b here.here).apart in
          subst (λ z. Turn.Turn kind s h z (sent_to (Some t) sender None (Answered (Ok (displacing s.next None)))))
          (sym (ap (λ v. wake kind (with_counts (with_mailbox (accept kind s bytes) m v) (count_handed_over (accept kind s bytes).counts)) t (HandOver s.next))
          (ap (edited leave_oldest) here.here ∙ ap (λ l. Some (with_receivers b (others l))) q)
          ∙ woken kind (Turn.after_hand kind s m b rs bytes) t (HandOver s.next) p.0 (Given s.next) p.1 (ap (λ a. due_after p.0.urgency.deadline a (HandOver s.next)) p.2)))
          (Turn.hand sender m b t p.0 rs bytes here none q p.1 p.2 c)

      turn_queue : oldest (mailbox_at s m).receivers ≡ None → Turn.Accepts kind s b bytes s.used → SentTo None None None (arrive kind (accept kind s bytes) m s.next None None None)
      turn_queue e c =
          subst (λ v. Turn.Turn kind s h (with_mailbox (accept kind s bytes) m v) (Turn.with_accepted m s.next bytes None h)) (sym (ap (edited (queue (Turn.next_message s None))) here.here))
          (Turn.queue_plain m b bytes here (sym receivers_at ∙ oldest_none (mailbox_at s m).receivers e) c)

      turn_queue_wait : (x : Task) → Turn.Runs s x → oldest (mailbox_at s m).receivers ≡ None → Turn.Accepts kind s b bytes s.used
          → SentTo None (Some (running s)) None (arrive kind (accept kind s bytes) m s.next (Some (running s)) None None)
      turn_queue_wait x r e c =
          subst₂ (λ v o. Turn.Turn kind s h (with_ready (with_task (with_mailbox (accept kind s bytes) m v) (running s) o) (removed (running s) s.ready)) (Turn.with_accepted m s.next bytes (Some (running s)) h))
          (sym (ap (edited (queue (Turn.next_message s (Some (running s))))) here.here)) (sym (ap (doing (Sending m s.next)) r.here))
          (Turn.queue_wait x m b bytes r here (sym receivers_at ∙ oldest_none (mailbox_at s m).receivers e) c)

      -- the oldest message makes room
      turn_queue_over : (y : Message) (ys : List Message) (old : List ℕ) → Turn.Oldest s m b y ys old → y.sender ≡ None → b.receivers ≡ [] → Turn.Accepts kind s b bytes (s.used - kind.cost (length old))
          → SentTo None None (Some y) (arrive kind (accept kind (take_out kind s m y count_displaced) bytes) m s.next None (Some y.number) None)
      turn_queue_over y ys old o e r c =
          subst (λ v. Turn.Turn kind s h (with_mailbox (accept kind (with_counts (with_mailbox (release kind s y.number) m v) (count_displaced s.counts)) bytes) m (edited (queue (Turn.next_message s None)) (changed s.mailboxes m v m))) (Turn.with_accepted m s.next bytes None (Turn.with_displaced y.number h)))
          (sym (ap (edited unqueue_oldest) here.here ∙ ap (λ l. Some (with_messages b (others l))) o.first))
          (subst (λ v. Turn.Turn kind s h (with_mailbox (accept kind (Turn.after_displacing kind s m b y ys) bytes) m (edited (queue (Turn.next_message s None)) v)) (Turn.with_accepted m s.next bytes None (Turn.with_displaced y.number h)))
          (sym (changed_same s.mailboxes m (Some (with_messages b ys))))
          (Turn.queue_over m b y ys old bytes o e r c))

    abbrev SentAs : Option ℕ → Option Message → Effect → Type 0
    SentAs sender d = SentTo (oldest (mailbox_at s m).receivers) sender d

    turn_send_wait : SentAs (Some (running s)) None (rules.send_wait kind s m bytes)
    turn_send_wait = tabled (SentAs (Some (running s)) None) s [] (send_wait_rows kind s m bytes) _ (λ _. Turn.stay) (λ c.
        let f = found m c.1.1.0 c.1.1.1.0 in let r = free c.0 c.1.0 in
        let a = takes_bytes f.0 f.1 s.used c.1.1.1.1.0 c.1.1.1.1.1.1.1.0 c.1.1.1.1.1.1.1.1 in
        go f.0 f.1 r.0 r.1 a (oldest (mailbox_at s m).receivers) refl)
      where
        go : (b : Mailbox) → Turn.At s m b → (x : Task) → Turn.Runs s x → Turn.Accepts kind s b bytes s.used → (o : Option ℕ) → oldest (mailbox_at s m).receivers ≡ o
            → SentTo o (Some (running s)) None (arrive kind (accept kind s bytes) m s.next (Some (running s)) None o)
        go b here x r a (Some t) e = turn_hand b here (Some (running s)) t e a
        go b here x r a None e = turn_queue_wait b here x r e a

    -- with a message to displace, and without
    turn_displacing : (b : Mailbox) → Turn.At s m b → ltb top s.next ≡ false → not (eqb (length bytes) (mailbox_at s m).size) ≡ false → other_mode false (oldest (mailbox_at s m).messages) ≡ false
        → (y : Message) → oldest (mailbox_at s m).messages ≡ Some y → Clear (store_rows kind s bytes (Some y))
        → SentAs None (Some y) (arrive kind (accept kind (take_out kind s m y count_displaced) bytes) m s.next None (Some y.number) (oldest (mailbox_at s m).receivers))
    turn_displacing b here n z mode y e c =
        let parts = clear_parts (discard_rows s.held y.number) (put_rows kind.capacity kind.cost s.held (s.used - units_in kind.cost (s.held y.number)) s.next bytes) c in
        let p = some_unless_none (s.held y.number) parts.0.0 in
        let q = sym (ap (λ o. (mailbox_in o).messages) here.here) ∙ oldest_some (mailbox_at s m).messages y e in
        let none : b.receivers ≡ [] = ⊎_elim (λ x. let i : ◌≡◌ {A = ℕ} 0 1 = cc in absurd (omega arith)) (λ x. x) (w.boxed m b here.here).apart in
        subst (λ o. SentTo o None (Some y) (arrive kind (accept kind (take_out kind s m y count_displaced) bytes) m s.next None (Some y.number) o))
        (sym (ap oldest (receivers_at b here ∙ none)))
        (turn_queue_over b here y (others (mailbox_at s m).messages) p.0 (record { at = here; first = q; held = p.1 })
        (none_from y.sender (sym (ap (other_mode false) e) ∙ mode)) none
        (subst (λ o. Turn.Accepts kind s b bytes (s.used - units_in kind.cost o)) p.1 (takes_bytes b here (s.used - units_in kind.cost (s.held y.number)) z n parts.1)))

    -- the message that a send displaces is the oldest
    displaced_oldest : (full : Bool) (o : Option Message) (y : Message) → cond full o None ≡ Some y → o ≡ Some y
    displaced_oldest true o y e = e
    displaced_oldest false o y e = let i : ◌≡◌ {A = ℕ} 0 1 = cc in absurd (omega arith)

    turn_send_no_wait : SentAs None (displaced_at s m) (rules.send_no_wait kind s m bytes)
    turn_send_no_wait = tabled (SentAs None (displaced_at s m)) s [] (send_no_wait_rows kind s m bytes) _ (λ _. Turn.stay) (λ c.
        let f = found m c.1.0 c.1.1.0 in
        go f.0 f.1 c.1.1.1.0 c.1.1.1.1.1.0 c.1.1.1.1.0 (displaced_at s m) refl c.1.1.1.1.1.1)
      where
        plainly : (b : Mailbox) → Turn.At s m b → Turn.Accepts kind s b bytes s.used → (o : Option ℕ) → oldest (mailbox_at s m).receivers ≡ o → SentTo o None None (arrive kind (accept kind s bytes) m s.next None None o)
        plainly b here a (Some t) e = turn_hand b here None t e a
        plainly b here a None e = turn_queue b here e a

        go : (b : Mailbox) → Turn.At s m b → not (eqb (length bytes) (mailbox_at s m).size) ≡ false → ltb top s.next ≡ false → other_mode false (oldest (mailbox_at s m).messages) ≡ false
            → (o : Option Message) → displaced_at s m ≡ o → Clear (store_rows kind s bytes o)
            → SentAs None o (arrive kind (accept kind (rules.displace kind s m o) bytes) m s.next None (number_in o) (oldest (mailbox_at s m).receivers))
        go b here z n mode None e c = plainly b here (takes_bytes b here s.used z n c) (oldest (mailbox_at s m).receivers) refl
        go b here z n mode (Some y) e c = turn_displacing b here n z mode y (displaced_oldest _ _ y e) c

  -- every line is a tick or a turn
  pub turn_of : (l : Line) → (l ≡ Tick) ⊎ Turn.Turn kind s h (effect kind s l).state (with_line s l (effect kind s l) h)
  turn_of (CreateTask t d l) = inr (turn_create_task t d l)
  turn_of (CreateMailbox m c z) = inr (turn_create_mailbox m c z)
  turn_of Run = inr (Turn.clock 0)
  turn_of Terminate = inr turn_terminate
  turn_of (RemoveMailbox m) = inr (turn_remove_mailbox m)
  turn_of (SendWait m bytes) = inr (turn_send_wait m bytes)
  turn_of (SendNoWait m bytes) = inr (turn_send_no_wait m bytes)
  turn_of (ReceiveWait m buffer) = inr (turn_receive_wait m buffer)
  turn_of (ReceiveNoWait m buffer) = inr (turn_receive_no_wait m buffer)
  turn_of (Wait n) = inr (turn_wait n)
  turn_of (Collect buffer) = inr (turn_collect buffer)
  turn_of (SetDeadline d) = inr (turn_set_deadline d)
  turn_of (SetTicks n) = inr (turn_set_ticks n)
  turn_of Ticks = inr Turn.stay
  turn_of Deadline = inr Turn.stay
  turn_of Running = inr Turn.stay
  turn_of Tick = inl refl
  turn_of Close = inr Turn.stay
