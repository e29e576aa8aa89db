-- The five counts, and how each fate of a message changes them.
use Rattle.std.specs.Prelude.{ℕ, ◌+◌, ◌-◌, min}
use Rattle.answers.specs.declared.answer.Counts.{Counts}

-- before the first message
abbrev pub no_message : Counts
no_message = record { accepted = 0; queued = 0; handed_over = 0; withdrawn = 0; displaced = 0 }

-- one more, up to the largest 64-bit number
abbrev pub one_more : ℕ → ℕ
one_more n = min (n + 1) 18446744073709551615

-- a message is accepted, and queued until it has another fate
abbrev pub count_accepted : Counts → Counts
count_accepted c =
    record { accepted = one_more c.accepted; queued = one_more c.queued; handed_over = c.handed_over; withdrawn = c.withdrawn; displaced = c.displaced }

-- a queued message is handed over
abbrev pub count_handed_over : Counts → Counts
count_handed_over c =
    record { accepted = c.accepted; queued = c.queued - 1; handed_over = one_more c.handed_over; withdrawn = c.withdrawn; displaced = c.displaced }

-- a queued message is withdrawn
abbrev pub count_withdrawn : Counts → Counts
count_withdrawn c =
    record { accepted = c.accepted; queued = c.queued - 1; handed_over = c.handed_over; withdrawn = one_more c.withdrawn; displaced = c.displaced }

-- a queued message is displaced
abbrev pub count_displaced : Counts → Counts
count_displaced c =
    record { accepted = c.accepted; queued = c.queued - 1; handed_over = c.handed_over; withdrawn = c.withdrawn; displaced = one_more c.displaced }
