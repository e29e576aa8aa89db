use Rattle.kernel.proofs.Taking.{lawful_with}
use Rattle.kernel.proofs.running.Kernel+S+O.deadline.Goals as goal

pub returns-clause-lawful : goal.returns-clause-lawful
returns-clause-lawful g c = lawful_with g.S.Store g.O.Order g.met.O.Order.rules _ c.args.self.now.engine
