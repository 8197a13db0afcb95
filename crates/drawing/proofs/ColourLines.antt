-- A colour has the 24 lines VD23..VD0 and no more (§5.5), whatever the words, memory and palette.
use mathlib.Core.Bool.{Bool, true, false}
use mathlib.Core.List.{List}
use Prim.Native.Nat.{ℕ, ◌^◌, ◌<◌}
use native.Mathlib.Omega.{arith}
use lib.Dec.{eqb}
use lib.ListN.{get_or}
use Rattle.laws.specs.BooleanLaws.{either_way}
use Rattle.pixels.specs.Colours.{expanded, expanded565, expanded5551, cut24}
use Rattle.pixels.specs.Format.{format}
use Rattle.pixels.specs.Pixel.{indexed, shown}
use Rattle.pixels.specs.declared.format.Format.{Format}
use Rattle.memory.specs.Memory.{first_word}
use Rattle.memory.specs.declared.Screen.{Screen}
use Rattle.pixels.specs.declared.colours.Expansion.{Expansion}
use Rattle.pixels.specs.declared.colours.Expansion.TheVariants.{Rgb565, Rgb5551}
use Rattle.pixels.specs.Order.{stored_pixel}
use Rattle.drawing.specs.Colour.{Lent, row_colour, colour}

expanded-lines : (e : Expansion) (v : ℕ) → expanded e v < 2 ^ 24
unfolding expanded expanded565 expanded5551
expanded-lines Rgb565 v = omega arith
expanded-lines Rgb5551 v = omega arith

cut-lines : (b : Bool) (v : ℕ) → cut24 b v < 2 ^ 24
unfolding cut24
cut-lines true v = omega arith
cut-lines false v = omega arith

shown-lines : (f : Format) (palette : List ℕ) (v : ℕ) → shown f (indexed f palette) v < 2 ^ 24
unfolding shown
shown-lines f palette v =
    either_way (λ k. k < 2 ^ 24) (eqb f.bits 32) (cut-lines f.bpp24bl v)
    (either_way (λ k. k < 2 ^ 24) (eqb f.bits 16) (expanded-lines f.expansion v) (expanded-lines f.expansion (get_or palette v 0)))

pub colour-lines : (s : Screen) (l : Lent) (r c : ℕ) → colour s l r c < 2 ^ 24
unfolding colour row_colour format
colour-lines s l r c = either_way (λ k. k < 2 ^ 24) f.tpalen (omega arith) (shown-lines f l.palette stored)
  where
    f : Format
    f = format s.words

    stored : ℕ
    stored = stored_pixel f.bits f.bswp f.hwswp l.memory (first_word s r) c
