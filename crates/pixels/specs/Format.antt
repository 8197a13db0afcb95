-- How a pixel's bits are to be read, by the words, in one record: their number (§2.2), the swaps (§4.2, §4.3), BPP24BL (§4.5), FRM565
-- (§5.2, §5.3) and the temporary palette (§5.4).
-- Promises cite it, so a reader must believe it.
use Rattle.std.specs.Prelude.{cond, eqb}
use Rattle.registers.specs.Fields as Fields
use Rattle.registers.specs.declared.Words.{Words}
use Rattle.panel.specs.Geometry.{stored_bits}
use Rattle.pixels.specs.declared.colours.Expansion.{Expansion}
use Rattle.pixels.specs.declared.colours.Expansion.TheVariants.{Rgb565, Rgb5551}
use Rattle.pixels.specs.declared.format.Format.{Format}

-- FRM565 chooses how 16 bits become 24 lines: 5:6:5 where it is set (§5.2), else 5:5:5:1 (§5.3)
unfoldable pub expansion_of : Words → Expansion
expansion_of w = cond (eqb (Fields.frm565 w) 1) Rgb565 Rgb5551

-- the format that the words give their pixels
unfoldable pub format : Words → Format
format w =
    record {
      bits = stored_bits (Fields.bppmode w);
      bswp = eqb (Fields.bswp w) 1;
      hwswp = eqb (Fields.hwswp w) 1;
      bpp24bl = eqb (Fields.bpp24bl w) 1;
      expansion = expansion_of w;
      tpalen = eqb (Fields.tpalen w) 1;
      tpalval = Fields.tpalval w;
    }
