-- What stands there is changed.
use Rattle.std.proofs.Common.{◌≡◌, get_or, Some, None, refl, ◌∙◌, arith}
use Rattle.std.proofs.lemmas.List.{get_or_default}
use Rattle.fixed.proofs.places.edit.Goals as goal

pub returns-in-Some : goal.returns-in-Some
returns-in-Some g c =
    let table = c.args.table.now in
    let row : get_or table c.args.place None ≡ Some c.in-Some.x =
    get_or_default table c.args.place None _ (omega arith) ∙ c.in-Some.is in
    rw row (c.change.new.arg2, record { shown = _; shows = refl; left = _; met = c.change.ensures; leaves = refl }, refl)
