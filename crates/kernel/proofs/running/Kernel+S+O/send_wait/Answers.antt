use Rattle.std.proofs.Common.{rules}
use Rattle.kernel.proofs.Taking.{takes, lawful_with}
use Rattle.kernel.proofs.running.Kernel+S+O.send_wait.Goals as goal

pub returns-clause-takes : goal.returns-clause-takes
returns-clause-takes g c = search (rules, takes)

pub returns-clause-lawful : goal.returns-clause-lawful
returns-clause-lawful g c = lawful_with g.S.Store g.O.Order g.met.O.Order.rules _ c.args.self.now.engine
