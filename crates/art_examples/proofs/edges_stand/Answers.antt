use Rattle.art_examples.proofs.Shown.{shown}
use Rattle.art_examples.proofs.edges_stand.Goals as goal

pub returns : goal.returns
returns c = shown
