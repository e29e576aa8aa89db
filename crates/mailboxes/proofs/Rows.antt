-- A table with no row has no mailbox.
use Rattle.std.proofs.Common.{◌≡◌, replicate, ap, None}
use mathlib.Core.Path.{fun_ext}
use Rattle.art.proofs.Changes.{getD_blank}
use Rattle.mailboxes.specs.Meaning.{mailbox_of, in_rows}

pub no_rows : in_rows (replicate 32 None) ≡ (λ _. None)
no_rows = fun_ext (λ u. ap mailbox_of (getD_blank 32 u None))
