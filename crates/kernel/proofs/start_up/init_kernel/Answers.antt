use Rattle.kernel.proofs.Taking.{lawful_from_the_start}
use Rattle.kernel.proofs.start_up.init_kernel.Goals as goal

pub returns-clause-lawful : goal.returns-clause-lawful
returns-clause-lawful g c = lawful_from_the_start g.S.Store g.O.Order g.met.O.Order.rules _
