-- Every record is lawful: what is sound is kept by every line, and the law is read off it.
use Rattle.std.proofs.Common.{◌≡◌, ℕ, [], ◌∷◌, sym, refl, ◌∙◌, subst, ⊎_elim, arith}
use Rattle.std.specs.List.{AllByRecursion}
use Rattle.art.specs.State.{Kind, OrderRules, State, running}
use Rattle.art.specs.Rules.{Counted as COUNTED, Number, Ticked}
use Rattle.art.specs.Record.{Line, Record, effect, state}
use Rattle.law.specs.History.{History, history, last_reply, with_line}
use Rattle.law.specs.Law.{Fates, Urgency, ListedAnswers, Lawful, given, queued, refusal_in, stores_own}
use Rattle.law.proofs.Answers.{keep_answered, first_answered, answers_hold}
use Rattle.law.proofs.Balancing.{keep_balanced, keep_counted, first_balanced, first_counted, total_holds}
use Rattle.law.proofs.Boxes.{keep_boxed, first_boxed}
use Rattle.law.proofs.Counting.{sum_append}
use Rattle.law.proofs.Lines.{turn_of}
use Rattle.law.proofs.Order.{keep_in_order, first_in_order, order_holds}
use Rattle.law.proofs.Places.{keep_placed, keep_tasked, first_placed, first_tasked, places_hold}
use Rattle.law.proofs.Refusals.{listed_holds, displacing_holds}
use Rattle.law.proofs.Sound.{Sound}
use Rattle.law.proofs.Ticks.{tick_keeps}
use Rattle.law.proofs.Traces.{keep_traced, first_traced, bytes_hold}
use Rattle.law.proofs.Turn.{Turn}
use Rattle.law.proofs.Urgency.{keep_ordered, first_ordered, running_ready, running_first, idle_alone}

module _ (kind : Kind) (rules : OrderRules kind.before) (n : ℕ) where
  keep : (s s' : State) (h h' : History) → Sound kind n s h → Turn kind s h s' h' → Sound kind n s' h'
  keep s s' h h' w t = record {
    placed = keep_placed kind n s s' h h' w t;
    tasked = keep_tasked kind n s s' h h' w t;
    ordered = keep_ordered kind rules n s s' h h' w t;
    boxed = keep_boxed kind n s s' h h' w t;
    balanced = keep_balanced kind n s s' h h' w t;
    counted = keep_counted kind n s s' h h' w t;
    traced = keep_traced kind n s s' h h' w t;
    in_order = keep_in_order kind n s s' h h' w t;
    answered = keep_answered kind n s s' h h' w t;
  }

  line_keeps : (s : State) (h : History) → Sound kind n s h → (l : Line) → Sound kind n (effect kind s l).state (with_line s l (effect kind s l) h)
  line_keeps s h w l = ⊎_elim
      (λ e. subst (λ i. Sound kind n (effect kind s i).state (with_line s i (effect kind s i) h)) (sym e) (tick_keeps kind n keep s h w))
      (λ t. keep s _ h _ w t)
      (turn_of kind n s h w l)

  sound : (r : Record) → Sound kind n (state kind n r) (history kind n r)
  sound [] = record {
    placed = first_placed n;
    tasked = first_tasked n;
    ordered = first_ordered kind n;
    boxed = first_boxed n;
    balanced = first_balanced kind n;
    counted = first_counted n;
    traced = first_traced n;
    in_order = first_in_order n;
    answered = first_answered n;
  }
  sound (l ∷ r) = line_keeps (state kind n r) (history kind n r) (sound r) l

  fates : (r : Record) → Fates kind (state kind n r) (history kind n r)
  fates r = let w = sound r in let c = w.counted in record {
    parted = w.balanced.parted;
    once = w.balanced.once;
    total = total_holds kind n (state kind n r) (history kind n r) w.balanced;
    close = λ i. COUNTED (record { accepted = c.of_accepted i; queued = c.of_queued i; handed_over = c.of_handed_over i; withdrawn = c.of_withdrawn i; displaced = c.of_displaced i });
  }

  urgency : (r : Record) → Urgency kind n r
  urgency r = let w = sound r in let s = state kind n r in record {
    ready = running_ready kind s w.ordered;
    first = running_first kind rules s w.ordered;
    idle = idle_alone kind s w.ordered;
    asked = λ before e. subst (λ i. last_reply kind n i ≡ Number (running (state kind n i))) (sym e) refl;
    ticked = λ before e. subst (λ i. (k : ℕ) × (last_reply kind n i ≡ Ticked k (running (state kind n i)))) (sym e) (_, refl);
  }

  listed : (r : Record) → AllByRecursion (λ number. refusal_in (last_reply kind n r) ≡ number → ⊥) stores_own
  listed [] = (λ e. omega arith, (λ e. omega arith, (λ e. omega arith, (λ e. omega arith, tt))))
  listed (l ∷ r) = listed_holds kind n (state kind n r) (history kind n r) (sound r) l

  listed_answers : (r : Record) → ListedAnswers kind n r
  listed_answers r = let w = sound r in record {
    listed = listed r;
    displacing = λ before m bytes e full. subst (λ i. refusal_in (last_reply kind n i) ≡ 20 → ⊥) (sym e) (displacing_holds kind n (state kind n before) (history kind n before) (sound before) m bytes full);
    held = w.balanced.stored;
    units = w.balanced.units ∙ sym (sum_append _ (queued (state kind n r)) (given (state kind n r)));
    room = w.balanced.room;
  }

  pub lawful : (r : Record) → Lawful kind n r
  lawful r = let w = sound r in let s = state kind n r in let h = history kind n r in record {
    fates = fates r;
    bytes = bytes_hold kind n s h w;
    order = order_holds s.mailboxes h w.in_order;
    answers = answers_hold kind n s h w;
    places = places_hold s h.lives w.placed w.tasked;
    urgency = urgency r;
    listed_answers = listed_answers r;
  }
