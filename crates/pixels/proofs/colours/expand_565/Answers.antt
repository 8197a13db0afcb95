-- `pixels::colours::expand_565` meets its contract: three fields, each moved to its lines.
use mathlib.Core.Path.{◌∙◌}
use native.Mathlib.Nat.{add_assoc}
use Rattle.laws.specs.PackingLaws.{masked-moved-up, one_field, over}
use Rattle.pixels.specs.Colours.{expanded565}
use Rattle.pixels.proofs.colours.expand_565.Goals as goal

pub returns : goal.returns
unfolding expanded565
returns c =
    let v = c.args.v in
    let blue = one_field (masked-moved-up v 5 0 3 tt) in
    let green = over tt blue (masked-moved-up v 6 5 5 tt) in
    let red = over tt green (masked-moved-up v 5 11 8 tt) in
    red.is ∙ simp add_assoc
