-- What the pins say when they are read (§6.7): the levels and the data word at a position give back which parts it lies in and the
-- colour before INVVD, whatever the INV bits.
use mathlib.Core.Bool.{Bool, true, false, cond}
use mathlib.Core.Path.{◌≡◌, refl, ◌∙◌}
use Prim.Native.Nat.{ℕ, zero, suc, ◌+◌, ◌-◌, ◌/◌, ◌%◌, ◌^◌, ◌<◌}
use native.Mathlib.Nat.{mod-eq_of_lt}
use native.Mathlib.Omega.{arith}
use lib.Dec.{eqb, ltb}
use Rattle.panel.specs.Timing.{timing, line_clocks}
use Rattle.registers.specs.Fields.{vspw, hspw, invvframe, invvline, invvden, invvd}
use Rattle.registers.specs.declared.Words.{Words}
use Rattle.signals.specs.Clock.{level, data_word, in_sync, shows_pixel, clock_of, clock_at, is_active, vsync_active, hsync_active, vden_active, before_invvd}
use Rattle.signals.specs.Parts.{part_at, line_part, clock_part, lines_before, clocks_before}
use Rattle.signals.specs.Pixel.{spot_at}
use Rattle.signals.specs.declared.parts.Part.TheVariants.{Sync, BackPorch, Active, FrontPorch}

level-read : (invert : ℕ) (active : Bool) → invert < 2 → is_active invert (level invert active) ≡ active
unfolding is_active level
level-read zero true h = refl
level-read zero false h = refl
level-read (suc zero) true h = refl
level-read (suc zero) false h = refl
level-read (suc (suc n)) active h = absurd (omega arith)

in-sync-below : (sync before active n : ℕ) → in_sync (part_at sync before active n) ≡ ltb n sync
unfolding in_sync part_at
in-sync-below sync before active n = go (ltb n sync) (ltb n before) (ltb (n - before) active)
  where
    go : (a b c : Bool) → in_sync (cond a Sync (cond b BackPorch (cond c (Active (n - before)) FrontPorch))) ≡ a
    go true b c = refl
    go false true c = refl
    go false false true = refl
    go false false false = refl

module _ (w : Words) (p colour : ℕ) where
  pub vsync-in-sync-lines : vsync_active w (clock_at w p colour) ≡ ltb (p / line_clocks (timing w)) (vspw w + 1)
  unfolding clock_at clock_of line_part
  vsync-in-sync-lines =
      level-read (invvframe w) (in_sync (line_part (timing w) p)) (omega arith)
      ∙ in-sync-below (vspw w + 1) (lines_before (timing w)) ((timing w).lineval + 1) (p / line_clocks (timing w))

  pub hsync-in-sync-clocks : hsync_active w (clock_at w p colour) ≡ ltb (p % line_clocks (timing w)) (hspw w + 1)
  unfolding clock_at clock_of clock_part
  hsync-in-sync-clocks =
      level-read (invvline w) (in_sync (clock_part (timing w) p)) (omega arith)
      ∙ in-sync-below (hspw w + 1) (clocks_before (timing w)) ((timing w).hozval + 1) (p % line_clocks (timing w))

  pub vden-at-pixels : vden_active w (clock_at w p colour) ≡ shows_pixel (spot_at (timing w) p)
  unfolding clock_at clock_of spot_at
  vden-at-pixels = level-read (invvden w) (shows_pixel (spot_at (timing w) p)) (omega arith)

  pub colour-read : colour < 2 ^ 24 → before_invvd w (clock_at w p colour) ≡ colour
  unfolding clock_at clock_of data_word before_invvd
  colour-read h = rw (mod-eq_of_lt h) (go (eqb (invvd w) 1))
    where
      go : (b : Bool) → cond b (2 ^ 24 - 1 - cond b (2 ^ 24 - 1 - colour) colour) (cond b (2 ^ 24 - 1 - colour) colour) ≡ colour
      go true = omega arith
      go false = refl
