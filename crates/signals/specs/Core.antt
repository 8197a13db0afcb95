-- How the code counts the pixels before a clock (§6.6): by lines and columns, not clock by clock. A reader of the promises need not
-- believe any of it: that the count is the same is a law (`counted-by-lines`, proofs/ReadingOrder).
use Rattle.std.specs.Prelude.{cond, ℕ, ◌+◌, ◌-◌, ◌*◌, ◌/◌, ◌%◌, min, ltb}
use Rattle.panel.specs.Timing.{Timing, line_clocks}
use Rattle.signals.specs.Parts.{lines_before, clocks_before}
use Rattle.signals.specs.declared.parts.Layout.{Layout}

-- how the lines of a frame, and the clocks of a line, follow one another (§6.5)
abbrev pub lines_of : Timing → Layout
lines_of t = record { sync = t.vspw + 1; before = lines_before t; active = t.lineval + 1 }

abbrev pub clocks_of : Timing → Layout
clocks_of t = record { sync = t.hspw + 1; before = clocks_before t; active = t.hozval + 1 }

-- active clocks of an active line before the clock with this number
unfoldable pub columns_before : ℕ → ℕ → ℕ → ℕ
columns_before before wide clock = min (clock - before) wide

-- pixels before a clock in the line with this number: none before the active lines, all after them; in an active line the rows above
-- it, and `columns` of its own
unfoldable pub pixels_in_lines : ℕ → ℕ → ℕ → ℕ → ℕ → ℕ
pixels_in_lines before high wide line columns =
    cond (ltb line before) 0 (cond (ltb (line - before) high) ((line - before) * wide + columns) (high * wide))

-- pixels before a position
unfoldable pub pixels_by_lines : Timing → ℕ → ℕ
pixels_by_lines t p =
    pixels_in_lines (lines_before t) (t.lineval + 1) (t.hozval + 1) (p / line_clocks t)
    (columns_before (clocks_before t) (t.hozval + 1) (p % line_clocks t))
