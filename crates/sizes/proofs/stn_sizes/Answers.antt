-- `sizes::stn_sizes` meets its contract: size by size.
use Rattle.sizes.proofs.stn_sizes.Goals as goal

pub returns : goal.returns
returns c =
    rw (
      c.stn_width.ensures,
      c.height.ensures,
      c.stn_bits_of.ensures,
      c.clkval.ensures,
      c.hozval.ensures,
      c.height-2.ensures,
    )
