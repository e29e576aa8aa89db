-- What refusals tell, and how they are printed.
use Rattle.std.specs.Prelude.{ℕ, List, None, Ok, Err, codes, Option, Result}
use Rattle.store.specs.declared.fault.Layer.{Layer}
use Rattle.store.specs.declared.fault.Layer.TheVariants.{Kernel, Mailbox}
use Rattle.store.specs.declared.fault.Units.{Units}
use Rattle.store.specs.declared.fault.StoreFault.{StoreFault}
use Rattle.store.specs.Refusal as store
use Rattle.store.specs.Refusal.{Told, refusal_text}
use Rattle.refusals.specs.declared.refusal.Refusal.{Refusal}
use Rattle.refusals.specs.declared.refusal.Refusal.TheVariants.{AnswerDue, NothingDue, IdleTask, BadNumber, BadLevel, BadShape, Taken, NoMailbox, NotEmpty, WrongSize, ShortBuffer, ShortCollect, Mixed, Empty, Full, TooLong, NumbersSpent, Store}

abbrev pub number_of : Refusal → ℕ
number_of (AnswerDue t) = 1
number_of (NothingDue t) = 2
number_of (IdleTask t) = 3
number_of (BadNumber g) = 4
number_of (BadLevel g) = 5
number_of (BadShape g) = 6
number_of (Taken g) = 7
number_of (NoMailbox m) = 8
number_of (NotEmpty m) = 9
number_of (WrongSize m) = 10
number_of (ShortBuffer m) = 11
number_of (ShortCollect t) = 11
number_of (Mixed m) = 12
number_of (Empty m) = 13
number_of (Full m) = 14
number_of (TooLong t) = 15
number_of (NumbersSpent t) = 16
number_of (Store f) = store.number_of f

abbrev pub name_of : Refusal → List ℕ
name_of (AnswerDue t) = codes "ANSWER_DUE"
name_of (NothingDue t) = codes "NOTHING_DUE"
name_of (IdleTask t) = codes "IDLE_TASK"
name_of (BadNumber g) = codes "BAD_NUMBER"
name_of (BadLevel g) = codes "BAD_LEVEL"
name_of (BadShape g) = codes "BAD_SHAPE"
name_of (Taken g) = codes "TAKEN"
name_of (NoMailbox m) = codes "NO_MAILBOX"
name_of (NotEmpty m) = codes "NOT_EMPTY"
name_of (WrongSize m) = codes "WRONG_SIZE"
name_of (ShortBuffer m) = codes "SHORT_BUFFER"
name_of (ShortCollect t) = codes "SHORT_BUFFER"
name_of (Mixed m) = codes "MIXED"
name_of (Empty m) = codes "EMPTY"
name_of (Full m) = codes "FULL"
name_of (TooLong t) = codes "TOO_LONG"
name_of (NumbersSpent t) = codes "NUMBERS_SPENT"
name_of (Store f) = store.name_of f

-- rows 8 to 14 are the mailbox's, but for a collect's buffer
abbrev pub layer_of : Refusal → Layer
layer_of (AnswerDue t) = Kernel
layer_of (NothingDue t) = Kernel
layer_of (IdleTask t) = Kernel
layer_of (BadNumber g) = Kernel
layer_of (BadLevel g) = Kernel
layer_of (BadShape g) = Kernel
layer_of (Taken g) = Kernel
layer_of (NoMailbox m) = Mailbox
layer_of (NotEmpty m) = Mailbox
layer_of (WrongSize m) = Mailbox
layer_of (ShortBuffer m) = Mailbox
layer_of (ShortCollect t) = Kernel
layer_of (Mixed m) = Mailbox
layer_of (Empty m) = Mailbox
layer_of (Full m) = Mailbox
layer_of (TooLong t) = Kernel
layer_of (NumbersSpent t) = Kernel
layer_of (Store f) = store.layer_of f

-- the running task, the number given, the mailbox or the message
abbrev pub place_of : Refusal → ℕ
place_of (AnswerDue t) = t
place_of (NothingDue t) = t
place_of (IdleTask t) = t
place_of (BadNumber g) = g
place_of (BadLevel g) = g
place_of (BadShape g) = g
place_of (Taken g) = g
place_of (NoMailbox m) = m
place_of (NotEmpty m) = m
place_of (WrongSize m) = m
place_of (ShortBuffer m) = m
place_of (ShortCollect t) = t
place_of (Mixed m) = m
place_of (Empty m) = m
place_of (Full m) = m
place_of (TooLong t) = t
place_of (NumbersSpent t) = t
place_of (Store f) = store.place_of f

abbrev pub units_of : Refusal → Option Units
units_of (AnswerDue t) = None
units_of (NothingDue t) = None
units_of (IdleTask t) = None
units_of (BadNumber g) = None
units_of (BadLevel g) = None
units_of (BadShape g) = None
units_of (Taken g) = None
units_of (NoMailbox m) = None
units_of (NotEmpty m) = None
units_of (WrongSize m) = None
units_of (ShortBuffer m) = None
units_of (ShortCollect t) = None
units_of (Mixed m) = None
units_of (Empty m) = None
units_of (Full m) = None
units_of (TooLong t) = None
units_of (NumbersSpent t) = None
units_of (Store f) = store.units_of f

abbrev pub told : Refusal → Told
told x = record { number = number_of x; layer = layer_of x; place = place_of x; units = units_of x }

-- what a store's fault tells
abbrev pub store_told : StoreFault → Told
store_told f = store.told f

-- an answer by what it tells
abbrev pub outcome : {A : Type 0} → Result A Refusal → Result A Told
outcome (Ok x) = Ok x
outcome (Err x) = Err (told x)

abbrev pub printed : Refusal → List ℕ
printed x = refusal_text (number_of x) (name_of x) (layer_of x) (place_of x) (units_of x)
