-- `bench::output::spell_colour` meets its contract: each turn of the loop stores one digit.
use Rattle.std.proofs.Common.{ℕ, ◌/◌, ◌%◌, ap, ◌∙◌, arith}
use Rattle.laws.specs.StoringLaws.{none-stored, one_more, all-stored}
use Rattle.bench.specs.Output.{digit_char, colour_text}
use Rattle.bench.proofs.Lines.{digit-place}
use Rattle.bench.proofs.output.spell_colour.Goals as goal

pub loop-k-init : goal.loop-k-init
loop-k-init c = none-stored _ _ _

pub loop-k-preserved : goal.loop-k-preserved
unfolding colour_text
loop-k-preserved c =
    let colour = c.args.colour in
    one_more _ _ _ _ _ c.loop-k.invariant _ _ (omega arith)
    (c.digit.ensures ∙ ap (λ (p : ℕ). digit_char (colour / p % 16)) (digit-place c.loop-k.k (omega arith)))

pub returns : goal.returns
returns c = all-stored _ _ _ _ _ c.loop-k.invariant _ (omega arith)
