-- The parts of a line and of a frame (§6.5): the clocks of a line are sync, back porch, active and front porch, one part after the
-- other, and the lines of a frame likewise. Clocks and lines count from 0. Promises cite it, so a reader must believe it.
use Rattle.std.specs.Prelude.{cond, ℕ, ◌+◌, ◌-◌, ◌/◌, ◌%◌, ltb}
use Rattle.panel.specs.Timing.{Timing, line_clocks}
use Rattle.signals.specs.declared.parts.Part.{Part}
use Rattle.signals.specs.declared.parts.Parts.{Parts}
use Rattle.signals.specs.declared.parts.Part.TheVariants.{Sync, BackPorch, Active, FrontPorch}

-- the part of line or clock number n (§6.5): the first `sync` are sync, the rest of the first `before` back porch, the next `active`
-- are active, each with its number among them, and all others are front porch
unfoldable pub part_at : ℕ → ℕ → ℕ → ℕ → Part
part_at sync before active n =
    cond (ltb n sync) Sync (cond (ltb n before) BackPorch (cond (ltb (n - before) active) (Active (n - before)) FrontPorch))

-- lines before the active ones (§6.5): (VSPW+1) + (VBPD+1)
abbrev pub lines_before : Timing → ℕ
lines_before t = (t.vspw + 1) + (t.vbpd + 1)

-- clocks before the active ones (§6.5): (HSPW+1) + (HBPD+1)
abbrev pub clocks_before : Timing → ℕ
clocks_before t = (t.hspw + 1) + (t.hbpd + 1)

-- the part of the frame in which a position's line lies (§6.5)
unfoldable pub line_part : Timing → ℕ → Part
line_part t p = part_at (t.vspw + 1) (lines_before t) (t.lineval + 1) (p / line_clocks t)

-- the part of its line in which a position lies (§6.5)
unfoldable pub clock_part : Timing → ℕ → Part
clock_part t p = part_at (t.hspw + 1) (clocks_before t) (t.hozval + 1) (p % line_clocks t)

-- where a position lies in its frame and in its line
abbrev pub parts_at : Timing → ℕ → Parts
parts_at t p = record { line = line_part t p; clock = clock_part t p }
