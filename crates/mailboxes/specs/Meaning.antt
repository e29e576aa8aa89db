-- What the rows of the table mean to the rules.
use Rattle.std.specs.Prelude.{◌≡◌, ℕ, ◌<◌, List, length, Some, None, Option, slice_index_or}
use Rattle.std.specs.List as gap
use Rattle.fixed.specs.Items.{items}
use Rattle.art.specs.State.{Mailbox, changed}
use Rattle.art.specs.Verbs.{edited}
use Rattle.mailboxes.specs.declared.Mailbox.{Mailbox as Row}
use Rattle.mailboxes.specs.declared.Mailboxes.{Mailboxes}

-- the mailbox that a row stands for
abbrev pub meaning : Row → Mailbox
meaning row = record { capacity = row.capacity; size = row.size; messages = items row.messages; receivers = items row.receivers }

-- the same, or nothing where there is no row
abbrev pub mailbox_of : Option Row → Option Mailbox
mailbox_of None = None
mailbox_of (Some row) = Some (meaning row)

-- the mailboxes of rows, by their numbers
abbrev pub in_rows : List (Option Row) → ℕ → Option Mailbox
in_rows rows = λ m. mailbox_of (slice_index_or rows m None)

-- the mailboxes of a table, by their numbers
abbrev pub mailboxes_in : Mailboxes → ℕ → Option Mailbox
mailboxes_in table = in_rows table.rows

-- mailboxes with the one of a number changed, where it is in use
abbrev pub edited_at : (Mailbox → Mailbox) → (ℕ → Option Mailbox) → ℕ → ℕ → Option Mailbox
edited_at f mailboxes m = changed mailboxes m (edited f (mailboxes m))

-- a mailbox in use, in whose queue there is a free place
abbrev pub room_for_message : Option Mailbox → Type 0
room_for_message None = ⊥
room_for_message (Some b) = length b.messages < 16

-- a mailbox in use, among whose receivers there is a free place
abbrev pub room_for_receiver : Option Mailbox → Type 0
room_for_receiver None = ⊥
room_for_receiver (Some b) = length b.receivers < 16

-- a row before and after a change of its mailbox
abbrev pub Edited : (Mailbox → Mailbox) → Row → Row → Type 0
Edited f before after = meaning after ≡ f (meaning before)

-- a list before and after one leaves it: the place where it stood, if it did
abbrev pub Gap : {A : Type 0} → List A → List A → Option ℕ → Type 0
Gap before after None = after ≡ before
Gap before after (Some i) = (i < length before) × (after ≡ gap.remove before i)
