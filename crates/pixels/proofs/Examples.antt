-- Worked examples of pixel order (§4) and colours (§5), with T2 to T7 and T9 (§13.1), tried on the definitions. Their numbers are
-- worked out by hand from the rules.
use mathlib.Core.Bool.{Bool, true, false, ◌&&◌}
use mathlib.Core.List.{List, [], ◌∷◌}
use mathlib.Core.Path.{◌≡◌, refl}
use Prim.Native.Nat.{ℕ, suc}
use lib.Dec.{T, eqb}
use Rattle.registers.specs.Loading as Loading
use Rattle.panel.specs.Geometry.{stored_bits, outside_modes}
use Rattle.pixels.specs.declared.colours.Expansion.TheVariants.{Rgb565, Rgb5551}
use Rattle.pixels.specs.Colours.{expanded565, expanded5551, expanded, cut24}
use Rattle.pixels.specs.Order.{reverse_bytes, exchange_halves, in_order, pixel_bits}
use Rattle.pixels.specs.Format.{expansion_of, format}

-- ---- the pixels of the word 0x01234567

pub record Word : Type 0 where
  pub bits : ℕ
  pub bswp : Bool
  pub hwswp : Bool
  pub pixels : List ℕ

abbrev at : ℕ → Bool → Bool → List ℕ → Word
at bits bswp hwswp pixels = record { bits = bits; bswp = bswp; hwswp = hwswp; pixels = pixels }

-- stored bits, BSWP, HWSWP, the pixels from the first on
abbrev pub words : List Word
words =
    -- T2
    at 8 false false (0x01 ∷ 0x23 ∷ 0x45 ∷ 0x67 ∷ [])
    ∷ at 8 true false (0x67 ∷ 0x45 ∷ 0x23 ∷ 0x01 ∷ [])
    -- T3, and without the swap
    ∷ at 4 false false (0 ∷ 1 ∷ 2 ∷ 3 ∷ 4 ∷ 5 ∷ 6 ∷ 7 ∷ [])
    ∷ at 4 true false (6 ∷ 7 ∷ 4 ∷ 5 ∷ 2 ∷ 3 ∷ 0 ∷ 1 ∷ [])
    -- T4
    ∷ at 16 false false (0x0123 ∷ 0x4567 ∷ [])
    ∷ at 16 false true (0x4567 ∷ 0x0123 ∷ [])
    -- 24 bits are stored in 32
    ∷ at 32 false false (0x01234567 ∷ [])
    ∷ []

abbrev pixels_agree : ℕ → ℕ → ℕ → List ℕ → Bool
pixels_agree s x k [] = true
pixels_agree s x k (p ∷ ps) = eqb (pixel_bits s x k) p && pixels_agree s x (suc k) ps

abbrev pub words_agree : List Word → Bool
words_agree [] = true
words_agree (w ∷ ws) =
    pixels_agree w.bits (in_order w.bswp w.hwswp 0x01234567) 0 w.pixels && words_agree ws

-- ---- numbers

pub record Example : Type 0 where
  pub made : ℕ
  pub expected : ℕ

infix 70 ◌gives◌
abbrev ◌gives◌ : ℕ → ℕ → Example
made gives expected = record { made = made; expected = expected }

abbrev pub examples : List Example
examples =
    reverse_bytes 0x01234567 gives 0x67452301
    ∷ exchange_halves 0x01234567 gives 0x45670123
    -- T5
    ∷ cut24 false 0x01234567 gives 0x234567
    ∷ cut24 true 0x01234567 gives 0x012345
    -- T6; then each field alone, and the lowest bit of each
    ∷ expanded565 0xFFFF gives 0xF8FCF8
    ∷ expanded565 0x07E0 gives 0x00FC00
    ∷ expanded565 0xF800 gives 0xF80000
    ∷ expanded565 0x001F gives 0x0000F8
    ∷ expanded565 0x0800 gives 0x080000
    ∷ expanded565 0x0020 gives 0x000400
    ∷ expanded565 0x0001 gives 0x000008
    -- T7; then the highest bit, and the lowest bit of each field
    ∷ expanded5551 0xFFFF gives 0xFCFCFC
    ∷ expanded5551 0x0001 gives 0x040404
    ∷ expanded5551 0x8000 gives 0x800000
    ∷ expanded5551 0x0800 gives 0x080000
    ∷ expanded5551 0x0040 gives 0x000800
    ∷ expanded5551 0x0002 gives 0x000008
    -- FRM565 chooses
    ∷ expanded Rgb565 0x0001 gives 0x000008
    ∷ expanded Rgb5551 0x0001 gives 0x040404
    ∷ []

abbrev pub agree : List Example → Bool
agree [] = true
agree (x ∷ xs) = eqb x.made x.expected && agree xs

pub examples-agree : T (words_agree words && agree examples)
unfolding pixel_bits in_order reverse_bytes exchange_halves cut24 expanded565 expanded5551 expanded
examples-agree = tt

-- ---- what the words say

-- T9: BPPMODE 12, FRM565, HWSWP
pub t9-format : format (Loading.nine_words (0x479 ∷ 0x014FC041 ∷ 0x0098EF09 ∷ 0x9 ∷ 0xB09 ∷ 0x18000000 ∷ 0x12C00 ∷ 0xF0 ∷ 0 ∷ []))
    ≡ record { bits = 16; bswp = false; hwswp = true; bpp24bl = false; expansion = Rgb565; tpalen = false; tpalval = 0 }
unfolding format expansion_of stored_bits outside_modes
t9-format = refl

-- T1's words with BPP24BL, BSWP and a temporary palette: what T9 has clear is set, and the other way round
pub t1-format-changed : format (Loading.nine_words (0x7B ∷ 0x4000 ∷ 0 ∷ 0 ∷ 0x1002 ∷ 0x18000000 ∷ 4 ∷ 2 ∷ 0x1123456 ∷ []))
    ≡ record { bits = 32; bswp = true; hwswp = false; bpp24bl = true; expansion = Rgb5551; tpalen = true; tpalval = 0x123456 }
unfolding format expansion_of stored_bits outside_modes
t1-format-changed = refl
