-- What is drawn by the format and a row's first word, and by a pixel's number in reading order (§5.6).
use mathlib.Core.Path.{◌≡◌, sym, ap₂}
use Prim.Native.Nat.{ℕ, ◌/◌, ◌%◌}
use Rattle.panel.specs.Geometry.{width}
use Rattle.pixels.specs.Format.{format}
use Rattle.pixels.specs.Pixel.{indexed}
use Rattle.pixels.specs.declared.format.Format.{Format}
use Rattle.memory.specs.Memory.{first_word}
use Rattle.memory.specs.declared.Screen.{Screen}
use Rattle.drawing.specs.Colour.{Lent, row_colour, colour}
use Rattle.drawing.specs.Drawing.{colour_in_order}

module _ (s : Screen) (l : Lent) (r : ℕ) (f : Format) (base : ℕ) (is-format : f ≡ format s.words) (is-first : base ≡ first_word s r) where
  pub colour-is : (c : ℕ) → row_colour f (indexed f l.palette) l.memory base c ≡ colour s l r c
  unfolding colour
  colour-is c = ap₂ (λ (g : Format) (b : ℕ). row_colour g (indexed g l.palette) l.memory b c) is-format is-first

-- the colour of a pixel by its number in reading order
pub in_order : (s : Screen) (l : Lent) (i r c : ℕ) → i / width s.words ≡ r → i % width s.words ≡ c
    → colour s l r c ≡ colour_in_order s l i
unfolding colour_in_order
in_order s l i r c e e' = sym (ap₂ (colour s l) e e')
