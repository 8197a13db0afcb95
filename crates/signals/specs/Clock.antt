-- The four signals at a clock (§6.7). Promises cite it, so a reader must believe it.
use Rattle.std.specs.Prelude.{Bool, true, false, Option, Some, None, not, cond, ℕ, ◌-◌, ◌%◌, ◌^◌, eqb}
use Rattle.panel.specs.Timing.{timing}
use Rattle.registers.specs.Fields.{invvframe, invvline, invvden, invvd}
use Rattle.registers.specs.declared.Words.{Words}
use Rattle.signals.specs.Parts.{line_part, clock_part}
use Rattle.signals.specs.Pixel.{spot_of}
use Rattle.signals.specs.declared.clock.Clock.{Clock}
use Rattle.signals.specs.declared.parts.Part.{Part}
use Rattle.signals.specs.declared.parts.Part.TheVariants.{Sync, BackPorch, Active, FrontPorch}
use Rattle.panel.specs.declared.geometry.Place.{Place}

-- a level (§6.7): 1 where the signal is active, else 0; inverted where the signal's INV bit is set
unfoldable pub level : ℕ → Bool → ℕ
level invert active = cond (eqb invert 1) (cond active 0 1) (cond active 1 0)

-- the data word (§6.7): a colour's 24 lines, complemented where INVVD is set, at blank clocks too
unfoldable pub data_word : ℕ → ℕ → ℕ
data_word invert colour = cond (eqb invert 1) (2 ^ 24 - 1 - colour % 2 ^ 24) (colour % 2 ^ 24)

-- the part is sync
unfoldable pub in_sync : Part → Bool
in_sync Sync = true
in_sync BackPorch = false
in_sync (Active k) = false
in_sync FrontPorch = false

-- the clock shows a pixel
unfoldable pub shows_pixel : Option Place → Bool
shows_pixel (Some p) = true
shows_pixel None = false

-- the four signals (§6.7), by the parts in which line and clock lie and by the colour before INVVD: VSYNC is active in a sync line,
-- HSYNC at a sync clock, VDEN at a pixel
unfoldable pub clock_of : Words → Part → Part → ℕ → Clock
clock_of w line clock colour =
    record {
      vsync = level (invvframe w) (in_sync line);
      hsync = level (invvline w) (in_sync clock);
      vden = level (invvden w) (shows_pixel (spot_of line clock));
      vd = data_word (invvd w) colour;
    }

-- the four signals at a position (§6.7)
unfoldable pub clock_at : Words → ℕ → ℕ → Clock
clock_at w p colour = clock_of w (line_part (timing w) p) (clock_part (timing w) p) colour

-- ---- reading the pins (§6.7)

-- whether a level says active: it differs from the INV bit of its signal
unfoldable pub is_active : ℕ → ℕ → Bool
is_active invert level = not (eqb level invert)

abbrev pub vsync_active : Words → Clock → Bool
vsync_active w k = is_active (invvframe w) k.vsync

abbrev pub hsync_active : Words → Clock → Bool
hsync_active w k = is_active (invvline w) k.hsync

abbrev pub vden_active : Words → Clock → Bool
vden_active w k = is_active (invvden w) k.vden

-- the colour before INVVD: the data word with INVVD's complement undone
unfoldable pub before_invvd : Words → Clock → ℕ
before_invvd w k = cond (eqb (invvd w) 1) (2 ^ 24 - 1 - k.vd) k.vd
