-- The status and the three fields are written one after another.
use Rattle.std.proofs.Common.{refl, rules}
use Rattle.std.proofs.lemmas.Grind.{put_four}
use Rattle.answers.specs.Answers.{answer_text}
use Rattle.answers.proofs.answer.AnswerDisplay.fmt.Goals as goal

pub returns-clause-writes : goal.returns-clause-writes
returns-clause-writes g c plain ok =
    let one = c.in_ok-fmt.ensures.writes plain refl in
    let two = c.in_ok-fmt-2.ensures.writes one.plain refl in
    let three = c.in_ok-fmt-3.ensures.writes two.plain refl in
    let four = c.fmt-4.ensures.writes three.plain ok in
    put_four g.W.Write.write_str_gives _ _ _ _ _ _ _ _ _ (answer_text c.args.self.now) one two three four (search rules)
