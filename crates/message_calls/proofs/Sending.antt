-- Sends that no row of the kernel refuses are left to the store and the mailbox. Assumes nothing.
use Rattle.std.proofs.Common.{◌≡◌, ℕ, true, false, cond, List, [], ◌∷◌, Some, None, Ok, Option, sym, ap, ◌∙◌, subst}
use Rattle.std.proofs.lemmas.Bool.{cond-false}
use Rattle.store.specs.Refusal.{row, tried}
use Rattle.store.specs.declared.fault.Layer.TheVariants.{Mailbox as MAILBOX}
use Rattle.art.specs.declared.task.Message.{Message}
use Rattle.art.specs.State.{Kind, Mailbox, State, running}
use Rattle.art.specs.Verbs.{fills, mailbox_at, mailbox_in, oldest}
use Rattle.art.specs.Rules.{Effect, Reply, answer_due, bad_mailbox, displaced_at, idle_calls, mixed, no_mailbox, send_no_wait, send_wait, unless, wrong_size}
use Rattle.engine.specs.Model.{Gives, numbered}
use Rattle.engine.proofs.Refused.{past, value_tried}

-- the message that a send displaces at a mailbox
abbrev goes : Mailbox → Option Message
goes b = cond (fills b b.messages) (oldest b.messages) None

module _ (kind : Kind) (s : State) (m : ℕ) (bytes : List ℕ) (b : Mailbox) (y n : ℕ) (r : Reply) (last : State) where
  pub sent_waiting : Ok y ≡ tried (answer_due s ∷ idle_calls s ∷ []) (running s) → Ok n ≡ tried (bad_mailbox m ∷ no_mailbox s m ∷ wrong_size s m bytes ∷ mixed s m true ∷ []) n → s.mailboxes m ≡ Some b → fills b b.messages ≡ false → Gives (numbered kind s m bytes (Some y) None) r [] last → Gives (send_wait kind s m bytes) r [] last
  sent_waiting caller fits box room g =
      let full = row 14 MAILBOX m (fills (mailbox_at s m) (mailbox_at s m).messages) in
      let free : full.holds ≡ false = ap (λ o. fills (mailbox_in o) (mailbox_in o).messages) box ∙ room in
      let rest = numbered kind s m bytes (Some (running s)) None in
      let own = subst (λ (t : ℕ). Gives (numbered kind s m bytes (Some t) None) r [] last) (value_tried (answer_due s ∷ idle_calls s ∷ []) y (running s) caller) g in
      past s [] (answer_due s ∷ idle_calls s ∷ []) _ _ _ _ _ _ caller
      (past s [] (bad_mailbox m ∷ no_mailbox s m ∷ wrong_size s m bytes ∷ mixed s m true ∷ []) (unless s [] (full ∷ []) rest) _ _ _ _ _ fits
      (subst (λ (f : Effect). Gives f r [] last) (sym (cond-false full.holds _ rest free)) own))

  pub sent_on : (x : Option Message) → Ok y ≡ tried (answer_due s ∷ []) (running s) → Ok n ≡ tried (bad_mailbox m ∷ no_mailbox s m ∷ wrong_size s m bytes ∷ mixed s m false ∷ []) n → s.mailboxes m ≡ Some b → x ≡ goes b → Gives (numbered kind s m bytes None x) r [] last → Gives (send_no_wait kind s m bytes) r [] last
  sent_on x caller fits box is g =
      let at : x ≡ displaced_at s m = is ∙ sym (ap (λ o. goes (mailbox_in o)) box) in
      let own = subst (λ (z : Option Message). Gives (numbered kind s m bytes None z) r [] last) at g in
      past s [] (answer_due s ∷ []) _ _ _ _ _ _ caller
      (past s [] (bad_mailbox m ∷ no_mailbox s m ∷ wrong_size s m bytes ∷ mixed s m false ∷ []) _ _ _ _ _ _ fits own)
