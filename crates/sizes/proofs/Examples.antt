-- The sizes (§10.3) checked against independent numbers: those of T8's panel (§13.1), of one whose parts all differ, and of an STN panel.
use mathlib.Core.List.{[], ◌∷◌}
use mathlib.Core.Path.{◌≡◌, refl}
use Rattle.panel.specs.Geometry.{stored_bits, outside_modes, stn_bits}
use Rattle.panel.specs.Timing.{line_clocks, frame_lines}
use Rattle.registers.specs.Fields.{stn}
use Rattle.registers.specs.Loading.{nine_words}
use Rattle.sizes.specs.Sizes.{sizes}

-- T8, with the words of T9
pub t8-sizes : sizes (nine_words (0x479 ∷ 0x014FC041 ∷ 0x0098EF09 ∷ 0x9 ∷ 0xB09 ∷ 0x18000000 ∷ 0x12C00 ∷ 0xF0 ∷ 0 ∷ []))
    ≡ 240 ∷ 320 ∷ 16 ∷ 10 ∷ 10 ∷ 20 ∷ 10 ∷ 280 ∷ 2 ∷ 2 ∷ 2 ∷ 326 ∷ []
unfolding sizes stn stored_bits outside_modes line_clocks frame_lines
t8-sizes = refl

-- 640 by 480 at 2 bits: 96 + 48 + 640 + 16 clocks, 2 + 33 + 480 + 10 lines
pub parts-in-order : sizes (nine_words (0x173 ∷ 0x2077C241 ∷ 0x017A7F0F ∷ 0x5F ∷ 0xB0A ∷ 0x18000000 ∷ 0x9600 ∷ 0x50 ∷ 0 ∷ []))
    ≡ 640 ∷ 480 ∷ 2 ∷ 4 ∷ 96 ∷ 48 ∷ 16 ∷ 800 ∷ 2 ∷ 33 ∷ 10 ∷ 525 ∷ []
unfolding sizes stn stored_bits outside_modes line_clocks frame_lines
parts-in-order = refl

-- STN, 320 by 240 in 16 greys: 40 clocks a line, 16 ticks each
pub stn-sizes : sizes (nine_words (0x845 ∷ 0x3BC000 ∷ 0x8270A ∷ 0xD02 ∷ 0 ∷ 0x18000000 ∷ 0x4B00 ∷ 0x50 ∷ 0 ∷ []))
    ≡ 320 ∷ 240 ∷ 4 ∷ 16 ∷ 0 ∷ 0 ∷ 0 ∷ 40 ∷ 0 ∷ 0 ∷ 0 ∷ 240 ∷ []
unfolding sizes stn stn_bits
stn-sizes = refl
