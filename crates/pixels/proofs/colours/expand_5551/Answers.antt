-- `pixels::colours::expand_5551` meets its contract: five fields, each moved to its lines; the lowest is bits 5..1 with bit 0.
use mathlib.Core.Path.{◌≡◌, ◌∙◌}
use Prim.Native.Nat.{ℕ, ◌+◌, ◌*◌, ◌^◌}
use native.Mathlib.Omega.{arith}
use Rattle.laws.specs.PackingLaws.{masked-moved-up, one_field, over}
use Rattle.pixels.specs.Colours.{bits, expanded5551}
use Rattle.pixels.proofs.colours.expand_5551.Goals as goal

low-six : (v : ℕ) → bits 5 0 v * 2 ^ 2 ≡ bits 5 1 v * 2 ^ 3 + bits 0 0 v * 2 ^ 2
low-six v = omega arith

-- from the order of the lines to the definition's
reordered : (red vd18 green vd10 blue vd2 : ℕ)
    → red + (vd18 + (green + (vd10 + (blue + vd2)))) ≡ red + green + blue + (vd18 + vd10 + vd2)
reordered red vd18 green vd10 blue vd2 = omega arith

pub returns : goal.returns
unfolding expanded5551
returns c =
    let v = c.args.v in
    let blue = one_field (masked-moved-up v 6 0 2 tt) in
    let vd10 = over tt blue (masked-moved-up v 1 0 10 tt) in
    let green = over tt vd10 (masked-moved-up v 5 6 5 tt) in
    let vd18 = over tt green (masked-moved-up v 1 0 18 tt) in
    let red = over tt vd18 (masked-moved-up v 5 11 8 tt) in
    (rw (low-six v) at red.is) ∙ reordered _ _ _ _ _ _
