-- Each history, by computing it.
use Rattle.std.proofs.Common.{refl}
use Rattle.art.specs.Verbs.{entered, choose}
use Rattle.law_examples.specs.Histories.{Histories}

pub shown : Histories
unfolding entered choose
shown = record {
  taken_in_time = record { accepted = refl; handed_over = refl; withdrawn = refl; told = refl; brought = refl };
  taken_too_late = record { accepted = refl; handed_over = refl; withdrawn = refl; told = refl; brought = refl };
  given = record { handed_over = refl; not_brought_yet = refl; brought = refl };
  displaced = record { accepted = refl; displaced = refl; lives = refl };
}
