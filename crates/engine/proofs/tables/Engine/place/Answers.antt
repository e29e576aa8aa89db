use Rattle.std.proofs.Common.{rules}
use Rattle.engine.specs.Model.{kind_of, view}
use Rattle.engine.proofs.Entering.{enters}
use Rattle.engine.proofs.tables.Engine.place.Goals as goal

pub returns-clause-enters : goal.returns-clause-enters
returns-clause-enters g c =
    let s = view g.S.Store c.args.self.now in
    enters (kind_of g.S.Store g.O.Order) s.tasks c.args.t s.ready c.first_passed.result c.unwrap_or.result c.first_passed.ensures (search rules)
