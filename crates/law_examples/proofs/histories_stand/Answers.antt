use Rattle.law_examples.proofs.Shown.{shown}
use Rattle.law_examples.proofs.histories_stand.Goals as goal

pub returns : goal.returns
returns c = shown
