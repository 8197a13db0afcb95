-- The colour of a pixel (§5.5, with §4.1 and §5.4): the one definition that every drawing cites. It is total: a word or an entry that
-- is not lent counts as 0. Promises cite it, so a reader must believe it.
use Rattle.std.specs.Prelude.{cond, List, ℕ}
use Rattle.pixels.specs.Format.{format}
use Rattle.pixels.specs.Order.{stored_pixel}
use Rattle.pixels.specs.Pixel.{indexed, shown}
use Rattle.pixels.specs.declared.format.Format.{Format}
use Rattle.memory.specs.Memory.{first_word}
use Rattle.memory.specs.declared.Screen.{Screen}
use Rattle.drawing.specs.declared.Lent.{Lent as Slices}

-- the memory (§3.1) and the palette (§5.1) lent to a call
pub record Lent : Type 0 where
  pub memory : List ℕ
  pub palette : List ℕ

abbrev pub lending : List ℕ → List ℕ → Lent
lending memory palette = record { memory = memory; palette = palette }

-- what the lent slices hold
abbrev pub contents : Slices → Lent
contents l = lending l.video.now l.palette.now

-- its colour, given the colour of each index (§5.5): TPALVAL where TPALEN is set (§5.4), else what the stored bits show
unfoldable pub row_colour : Format → (ℕ → ℕ) → List ℕ → ℕ → ℕ → ℕ
row_colour f colours memory base c =
    cond f.tpalen f.tpalval (shown f colours (stored_pixel f.bits f.bswp f.hwswp memory base c))

-- the colour of the pixel in row r, column c (§5.5)
unfoldable pub colour : Screen → Lent → ℕ → ℕ → ℕ
colour s l r c =
    row_colour (format s.words) (indexed (format s.words) l.palette) l.memory (first_word s r) c
