-- The pixel that a clock shows (§6.6), and how many pixels of a frame come before a clock. Promises cite it, so a reader must believe
-- it.
use Rattle.std.specs.Prelude.{Option, Some, None, ℕ, zero, suc, ◌+◌, ◌*◌}
use Rattle.panel.specs.Timing.{Timing, line_clocks}
use Rattle.signals.specs.Parts.{lines_before, clocks_before, line_part, clock_part}
use Rattle.signals.specs.declared.parts.Part.{Part}
use Rattle.signals.specs.declared.parts.Part.TheVariants.{Sync, BackPorch, Active, FrontPorch}
use Rattle.panel.specs.declared.geometry.Place.{Place}

-- what a clock in this part of the line of row r shows
unfoldable pub in_row : ℕ → Part → Option Place
in_row r Sync = None
in_row r BackPorch = None
in_row r (Active c) = Some (record { row = r; column = c })
in_row r FrontPorch = None

-- a clock shows a pixel where its line is active and so is the clock itself (§6.7), else nothing
unfoldable pub spot_of : Part → Part → Option Place
spot_of Sync clock = None
spot_of BackPorch clock = None
spot_of (Active r) clock = in_row r clock
spot_of FrontPorch clock = None

-- what the clock at a position shows (§6.6)
unfoldable pub spot_at : Timing → ℕ → Option Place
spot_at t p = spot_of (line_part t p) (clock_part t p)

-- the position of the pixel in row r, column c (§6.6): ((VSPW+1) + (VBPD+1) + r) × C + (HSPW+1) + (HBPD+1) + c
unfoldable pub pixel_clock : Timing → ℕ → ℕ → ℕ
pixel_clock t r c = (lines_before t + r) * line_clocks t + (clocks_before t + c)

-- ---- the pixels before a clock, which give a run its stretch of the picture (§5.7)

-- pixels that one clock shows
unfoldable pub count_in : Option Place → ℕ
count_in (Some p) = 1
count_in None = 0

-- how many of a frame's clocks before a position show a pixel
unfoldable pub pixels_before : Timing → ℕ → ℕ
pixels_before t zero = 0
pixels_before t (suc p) = pixels_before t p + count_in (spot_at t p)
