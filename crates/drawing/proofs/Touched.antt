-- What a pixel's colour (§5.5) reads: one word of its row, and at most one entry of the palette. Memories and palettes that agree
-- there give the same colour, whatever else they hold.
use mathlib.Core.Bool.{cond}
use mathlib.Core.List.{List}
use mathlib.Core.Path.{◌≡◌, ap, ◌∙◌}
use Prim.Native.Nat.{ℕ, ◌+◌, ◌/◌, ◌%◌}
use lib.Dec.{eqb}
use lib.ListN.{get_or}
use Rattle.pixels.specs.Colours.{expanded, cut24}
use Rattle.pixels.specs.Format.{format}
use Rattle.pixels.specs.Order.{in_order, pixel_bits, stored_pixel}
use Rattle.pixels.specs.Pixel.{indexed, shown}
use Rattle.pixels.specs.declared.format.Format.{Format}
use Rattle.memory.specs.Memory.{first_word}
use Rattle.memory.specs.declared.Screen.{Screen}
use Rattle.drawing.specs.Colour.{Lent, row_colour, colour}

-- the place of the word that holds a pixel
abbrev pub word_of : Screen → ℕ → ℕ → ℕ
word_of s r c = first_word s r + c / (32 / (format s.words).bits)

-- the stored bits of a pixel, which are the palette's index where there is one
abbrev pub index_of : Screen → List ℕ → ℕ → ℕ → ℕ
index_of s memory r c =
    stored_pixel (format s.words).bits (format s.words).bswp (format s.words).hwswp memory (first_word s r) c

module _ (s : Screen) (r c : ℕ) (l m : Lent) (word : get_or l.memory (word_of s r c) 0 ≡ get_or m.memory (word_of s r c) 0) where
  same_index : index_of s l.memory r c ≡ index_of s m.memory r c
  unfolding stored_pixel
  same_index =
      let f = format s.words in
      ap (λ (x : ℕ). pixel_bits f.bits (in_order f.bswp f.hwswp x) (c % (32 / f.bits))) word

  pub colour-reads : get_or l.palette (index_of s m.memory r c) 0 ≡ get_or m.palette (index_of s m.memory r c) 0
      → colour s l r c ≡ colour s m r c
  unfolding colour row_colour shown
  colour-reads entry =
      ap (λ (v : ℕ). cond f.tpalen f.tpalval (shown f (indexed f l.palette) v)) same_index
      ∙ ap (λ (x : ℕ). as-shown (index_of s m.memory r c) (expanded f.expansion x)) entry
    where
      f : Format
      f = format s.words

      as-shown : ℕ → ℕ → ℕ
      as-shown v x =
          cond f.tpalen f.tpalval
          (cond (eqb f.bits 32) (cut24 f.bpp24bl v) (cond (eqb f.bits 16) (expanded f.expansion v) x))
