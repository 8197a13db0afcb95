-- `sizes::tft_sizes` meets its contract: size by size.
use Rattle.sizes.proofs.tft_sizes.Goals as goal

pub returns : goal.returns
returns c =
    rw (
      c.width.ensures,
      c.height.ensures,
      c.bits_of.ensures,
      c.clkval.ensures,
      c.hspw.ensures,
      c.hbpd.ensures,
      c.hfpd.ensures,
      c.line_clocks.ensures,
      c.vspw.ensures,
      c.vbpd.ensures,
      c.vfpd.ensures,
      c.frame_lines.ensures,
    )
