-- The place of a row is its number.
use Rattle.mailboxes.proofs.Mailboxes.edit.Goals as goal

pub returns : goal.returns
returns g c = rw c.from.ensures at c.edit.ensures
