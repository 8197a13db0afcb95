-- `pixels::colours::cut_24` meets its contract: a shift takes the upper 24 bits, a mask the lower.
use mathlib.Core.Path.{◌∙◌}
use native.Mathlib.Nat.{mul-one}
use native.Mathlib.Omega.{arith}
use lib.Bits.{and_high}
use Rattle.laws.specs.PackingLaws.{moved-from-top}
use Rattle.pixels.specs.Colours.{bits, cut24}
use Rattle.pixels.proofs.colours.cut_24.Goals as goal

pub returns-then-bpp24bl : goal.returns-then-bpp24bl
unfolding cut24
returns-then-bpp24bl c = rw c.if-bpp24bl.true (moved-from-top c.args.x 24 8 (omega arith)).is

pub returns-else-bpp24bl : goal.returns-else-bpp24bl
unfolding cut24
returns-else-bpp24bl c =
    let x = c.args.x in
    rw c.if-bpp24bl.false (and_high x 24 0 ∙ mul-one (bits 23 0 x))
