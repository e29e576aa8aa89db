-- The texts of statuses, answers and counts.
use Rattle.std.specs.Prelude.{ℕ, List, [], ◌++◌, Some, None, codes, decimal, Option}
use Rattle.answers.specs.declared.answer.Status.{Status}
use Rattle.answers.specs.declared.answer.Status.TheVariants.{Ok as OK, Blocked as BLOCKED, DeadlineReached as DEADLINE_REACHED}
use Rattle.answers.specs.declared.answer.Answer.{Answer}
use Rattle.answers.specs.declared.answer.Counts.{Counts}

abbrev pub status_text : Status → List ℕ
status_text OK = codes "OK"
status_text BLOCKED = codes "BLOCKED"
status_text DEADLINE_REACHED = codes "DEADLINE_REACHED"

-- a field and its number, or nothing where it is absent
abbrev pub field_text : List ℕ → Option ℕ → List ℕ
field_text name None = []
field_text name (Some n) = name ++ decimal n

-- the status, then the fields that are present
abbrev pub answer_text : Answer → List ℕ
answer_text a =
    status_text a.status ++ (field_text (codes " message=") a.message ++ (field_text (codes " length=") a.length ++ field_text (codes " displaced=") a.displaced))

abbrev pub counts_text : Counts → List ℕ
counts_text c =
    codes "accepted=" ++ (decimal c.accepted ++ (codes " queued=" ++ (decimal c.queued ++ (codes " handed_over=" ++ (decimal c.handed_over
    ++ (codes " withdrawn=" ++ (decimal c.withdrawn ++ (codes " displaced=" ++ decimal c.displaced))))))))
