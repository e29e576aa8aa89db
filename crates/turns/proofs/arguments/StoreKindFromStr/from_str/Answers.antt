use Rattle.turns.proofs.Skipping.{names_none}
use Rattle.turns.proofs.arguments.StoreKindFromStr.from_str.Goals as goal

pub returns-in_default : goal.returns-in_default
returns-in_default c = (tt, names_none _ c.in_default.not-slot c.in_default.not-packed)
