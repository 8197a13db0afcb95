-- Colours (§5.2, §5.3, §4.5): the 24 lines VD23..VD0 as one number. A line that no bit goes to is 0.
-- Promises cite it, so a reader must believe it.
use Rattle.std.specs.Prelude.{Bool, cond, ℕ, suc, ◌+◌, ◌-◌, ◌*◌, ◌/◌, ◌%◌, ◌^◌}
use Rattle.pixels.specs.declared.colours.Expansion.{Expansion}
use Rattle.pixels.specs.declared.colours.Expansion.TheVariants.{Rgb565, Rgb5551}

-- bits high..low of a number
abbrev pub bits : ℕ → ℕ → ℕ → ℕ
bits high low v = v / 2 ^ low % 2 ^ (suc high - low)

-- 5:6:5 (§5.2): bits 15..11 to VD23..19, 10..5 to VD15..10, 4..0 to VD7..3
unfoldable pub expanded565 : ℕ → ℕ
expanded565 v = bits 15 11 v * 2 ^ 19 + bits 10 5 v * 2 ^ 10 + bits 4 0 v * 2 ^ 3

-- 5:5:5:1 (§5.3): bits 15..11 to VD23..19, 10..6 to VD15..11, 5..1 to VD7..3; bit 0 to each of VD18, VD10, VD2
unfoldable pub expanded5551 : ℕ → ℕ
expanded5551 v =
    bits 15 11 v * 2 ^ 19 + bits 10 6 v * 2 ^ 11 + bits 5 1 v * 2 ^ 3
    + (bits 0 0 v * 2 ^ 18 + bits 0 0 v * 2 ^ 10 + bits 0 0 v * 2 ^ 2)

-- the 16 bits of a palette entry or of a pixel, in the way that FRM565 chooses (§5.2, §5.3)
unfoldable pub expanded : Expansion → ℕ → ℕ
expanded Rgb565 v = expanded565 v
expanded Rgb5551 v = expanded5551 v

-- the 24 bits of a word (§4.5): bits 31..8 where BPP24BL is set, else bits 23..0
unfoldable pub cut24 : Bool → ℕ → ℕ
cut24 bpp24bl v = cond bpp24bl (bits 31 8 v) (bits 23 0 v)
