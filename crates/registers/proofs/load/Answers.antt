-- `registers::load` meets its contract: the chunk is there where the slice is not too short, and holds its first words.
use Rattle.std.proofs.Common.{sym, ap, ◌∙◌}
use Rattle.std.proofs.Math.Dec.{lit<}
use Rattle.std.proofs.lemmas.Bool.{lt-ltb}
use Rattle.laws.specs.Answers.{accepted}
use Rattle.laws.proofs.AnswerLaws.{one-refuses}
use Rattle.registers.specs.Loading.{nine_words, load, too_short, short_of_nine}
use Rattle.registers.proofs.Lending.{front-nine, nine-loaded}
use Rattle.registers.proofs.load.Goals as goal

pub returns-in_default : goal.returns-in_default
unfolding load too_short short_of_nine
returns-in_default c = one-refuses 10 _ _ (lit< tt) (lt-ltb _ _ c.in_default.ensures.cases)

pub returns : goal.returns
returns c =
    let chunk = c.in-Some.ensures.cases in
    let words = c.args.words.now in
    ap accepted (c.from.ensures ∙ ap nine_words chunk.same ∙ front-nine words) ∙ sym (nine-loaded words chunk.enough)
