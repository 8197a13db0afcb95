-- `pixels::format::format_of` meets its contract.
use mathlib.Core.Path.{refl}
use Rattle.pixels.specs.Format.{format}
use Rattle.pixels.proofs.format.format_of.Goals as goal

pub returns : goal.returns
unfolding format
returns c =
    rw (
      c.bits_of.ensures,
      c.bswp.ensures,
      c.hwswp.ensures,
      c.bpp24bl.ensures,
      c.expansion_of.ensures,
      c.tpalen.ensures,
      c.tpalval.ensures,
    )
    refl
