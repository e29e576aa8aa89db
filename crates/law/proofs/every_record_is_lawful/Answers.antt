use Rattle.law.proofs.Lawful.{lawful}
use Rattle.law.proofs.every_record_is_lawful.Goals as goal

pub returns : goal.returns
returns c = lawful
