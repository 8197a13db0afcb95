-- The calls that draw (§5.6, §5.7): what each is judged by (§9.3), and what it gives. The words are handed in by value: a slice with
-- fewer than nine has been refused before. Promises cite it, so a reader must believe it.
use Rattle.std.specs.Prelude.{Bool, false, not, ◌||◌, List, [], ◌∷◌, ◌++◌, ℕ, ◌+◌, ◌-◌, ◌*◌, ◌/◌, ◌%◌, min, eqb, leb, length}
use Rattle.laws.specs.Answers.{Answer, judged, Outcome, outcome}
use Rattle.laws.specs.Cases.{Case, ◌when◌, lowest}
use Rattle.laws.specs.Storing.{stores}
use Rattle.panel.specs.Geometry.{width, height}
use Rattle.panel.specs.Refusals.{video_off}
use Rattle.registers.specs.Loading.{too_short}
use Rattle.registers.specs.declared.Words.{Words}
use Rattle.memory.specs.Memory.{memory_cases}
use Rattle.memory.specs.declared.Screen.{Screen}
use Rattle.drawing.specs.Colour.{Lent, colour}

-- ---- the conditions

-- 10 (§9.1, §5.1): the palette does not have 256 entries
unfoldable pub palette_wrong : ℕ → Bool
palette_wrong entries = not (eqb entries 256)

-- 11 (§9.1, §5.6): the panel has no such row
unfoldable pub row_outside : Words → ℕ → Bool
row_outside w r = leb (height w) r

-- 11 (§9.1, §5.6): the panel has no such column
unfoldable pub column_outside : Words → ℕ → Bool
column_outside w c = leb (width w) c

-- pixels of the panel: W × H (§2.1)
abbrev pub pixels : Words → ℕ
pixels w = width w * height w

-- what every call that gives colours judges after 1 to 8 (§9.3): 9, and 10 by how many entries of the palette are lent and whether
-- another lent slice is too short
abbrev pub colour_tail : Words → ℕ → Bool → List Case
colour_tail w entries short = 9 when video_off w ∷ 10 when (palette_wrong entries || short) ∷ []

-- what a drawing is judged by: 1 to 8, 9, 10 (§9.3)
abbrev pub drawing_cases : Screen → ℕ → ℕ → Bool → List Case
drawing_cases s lent entries short = memory_cases s lent ++ colour_tail s.words entries short

-- the lowest number of these that applies, 0 where none does (§9.2)
unfoldable pub judge_drawing : Screen → ℕ → ℕ → Bool → ℕ
judge_drawing s lent entries short = lowest (drawing_cases s lent entries short)

-- ---- one pixel

-- one pixel is judged by 1 to 8, 9, 10, 11 (§9.3)
unfoldable pub judge_pixel : Screen → ℕ → ℕ → Bool → ℕ → ℕ → ℕ
judge_pixel s lent entries short r c =
    lowest (drawing_cases s lent entries short ++ (11 when (row_outside s.words r || column_outside s.words c) ∷ []))

-- the pixel's colour, or the refusal (§5.6)
unfoldable pub draw_pixel : Screen → Lent → ℕ → ℕ → Answer ℕ
draw_pixel s l r c = judged (judge_pixel s (length l.memory) (length l.palette) false r c) (colour s l r c)

-- ---- one row

-- a row is judged by 1 to 8, 9, 10 (for a lent row of fewer than W entries too), 11 (§9.3)
unfoldable pub judge_row : Screen → ℕ → ℕ → ℕ → ℕ → ℕ
judge_row s lent entries r room =
    lowest (drawing_cases s lent entries (too_short room (width s.words)) ++ (11 when row_outside s.words r ∷ []))

-- row r (§5.6): the colour of column c goes to entry c of the lent row; entries from W on keep their values
unfoldable pub draw_row : Screen → Lent → ℕ → List ℕ → Outcome
draw_row s l r row =
    outcome (judge_row s (length l.memory) (length l.palette) r (length row)) row
    (stores (colour s l r) 0 (width s.words) row)

-- ---- the picture

-- the colour of a pixel by its number in reading order: number i is row i / W, column i % W (§5.6)
unfoldable pub colour_in_order : Screen → Lent → ℕ → ℕ
colour_in_order s l i = colour s l (i / width s.words) (i % width s.words)

-- the `count` pixels from number `first` on, each in the entry with its number
abbrev pub pixels_stored : Screen → Lent → ℕ → ℕ → List ℕ → List ℕ
pixels_stored s l first count picture = stores (λ k. colour_in_order s l (first + k)) first count picture

-- the picture is judged by 1 to 8, 9, 10 (for a lent picture of fewer than W × H entries too) (§9.3)
unfoldable pub judge_picture : Screen → ℕ → ℕ → ℕ → ℕ
judge_picture s lent entries room = judge_drawing s lent entries (too_short room (pixels s.words))

-- the picture (§5.6): pixel number i goes to entry i; entries from W × H on keep their values
unfoldable pub draw_picture : Screen → Lent → List ℕ → Outcome
draw_picture s l picture =
    outcome (judge_picture s (length l.memory) (length l.palette) (length picture)) picture
    (pixels_stored s l 0 (pixels s.words) picture)

-- ---- a stretch of the picture (§5.7): nothing is judged

-- how many of the `count` pixels from number `first` on are on the panel and have an entry
abbrev pub fitting : Words → ℕ → ℕ → ℕ → ℕ
fitting w first count room = min count (min (pixels w) room - first)

-- these pixels, each in the entry with its number; the other entries keep their values
unfoldable pub draw_stretch : Screen → Lent → ℕ → ℕ → List ℕ → List ℕ
draw_stretch s l first count picture = pixels_stored s l first (fitting s.words first count (length picture)) picture
