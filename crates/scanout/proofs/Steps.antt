-- What the accepted steps of a list show (§8.4).
use mathlib.Core.Bool.{Bool, true, false, true≢false}
use mathlib.Core.Path.{◌≡◌, refl, sym, ap, ap₂, ◌∙◌}
use Prim.Native.Nat.{ℕ, ◌+◌, ◌/◌, ◌%◌, ◌^◌, ◌<◌}
use native.Mathlib.Nat.{div-mul-le_self}
use native.Mathlib.Omega.{arith}
use lib.Dec.{ltb}
use lib.ListN.{length}
use Rattle.laws.specs.Answers.{accepted, or_else}
use Rattle.drawing.proofs.ColourLines.{colour-lines}
use Rattle.drawing.specs.Colour.{Lent, colour}
use Rattle.drawing.specs.Drawing.{draw_pixel}
use Rattle.memory.specs.Memory.{screen}
use Rattle.panel.specs.Geometry.{width, height}
use Rattle.panel.specs.Timing.{Timing, timing, line_clocks}
use Rattle.registers.specs.Fields.{vspw, hspw}
use Rattle.registers.specs.declared.Words.{Words}
use Rattle.signals.proofs.Pins.{vsync-in-sync-lines, hsync-in-sync-clocks, vden-at-pixels, colour-read}
use Rattle.signals.proofs.Positions.{Shows, pixel, blank, shows, at-shows}
use Rattle.signals.specs.Clock.{shows_pixel, clock_at, vsync_active, hsync_active, vden_active, before_invvd}
use Rattle.signals.specs.Pixel.{spot_at}
use Rattle.signals.specs.declared.clock.Clock.{Clock}
use Rattle.panel.specs.declared.geometry.Place.{Place}
use Rattle.std.specs.Prelude.{Option, Some, None}
use Rattle.scanout.specs.Calls.{spot_colour, next_colour}
use Rattle.scanout.specs.FrameByFrame.{PixelAt, StepIn, frame_colour, pixel_colour}
use Rattle.scanout.specs.Lists.{Call, a_step, Calls, ◌then◌, Begins, final, clocks, taken, frame_words}
use Rattle.scanout.specs.State.{with_viewport, viewport_of, frame_of, shown_words, shown_screen}
use Rattle.scanout.specs.declared.state.State.{State}
use Rattle.scanout.proofs.Acceptance.{Passed, pixel-drawn}
use Rattle.scanout.proofs.Effects.{step-passed, step-clock}
use Rattle.scanout.proofs.Fronts.{taken_more, frame-words-in-front}
use Rattle.scanout.proofs.PixelTimes.{its-frame, pixel-position, position-pixel}
use Rattle.scanout.proofs.Schedule.{Schedule, shows-frame-words}
use Rattle.scanout.proofs.Views.{Alike, alike-trans, shown-alike}

-- ---- the viewport of a call's clocks, in the whole list

module _ (s : State) (calls before : Calls) (c : Call) (b : Begins (before then c) calls) (i : Schedule s before) where
  pub shown-in-list : 0 < clocks (final s before) c
      → shown_words (final s before) ≡ frame_words s calls (taken s before / frame_of s)
  shown-in-list some =
      shows-frame-words s before c i some
      ∙ sym (frame-words-in-front s (before then c) calls (taken s before / frame_of s) b
      (omega (arith, taken_more s before c, div-mul-le_self (taken s before) (frame_of s))))

  -- drawing a pixel from the words that a clock is shown with is drawing it under the frame's viewport
  pub frame-colour : (l : Lent) (short : Bool) → Passed (final s before) (length l.memory) (length l.palette) short
      → 0 < clocks (final s before) c → (r k : ℕ) → r < height s.screen.words → k < width s.screen.words
      → frame_colour s calls (taken s before / frame_of s) l r k
      ≡ accepted (colour (shown_screen (final s before)) l r k)
  frame-colour l short p some r k h h' =
      ap₂ (λ (w : Words) (k' : ℕ). draw_pixel (screen w k') l r k) (sym (shown-in-list some)) (sym i.window-start)
      ∙ pixel-drawn (final s before) l short p r k
      (rw (ap height i.alike) h) (rw (ap width i.alike) h')

-- ---- steps

next-colour-lines : (s : State) (l : Lent) → next_colour s l < 2 ^ 24
unfolding next_colour spot_colour
next-colour-lines s l = go (spot_at (timing s.screen.words) s.position)
  where
    go : (x : Option Place) → spot_colour (shown_screen s) l x < 2 ^ 24
    go (Some p) = colour-lines (shown_screen s) l p.row p.column
    go None = omega arith

module _ (s : State) (calls : Calls) (q : StepIn s calls) (i : Schedule s q.before) where
  -- the state that the call gets, and the number of its first clock
  abbrev here : State
  here = final s q.before

  abbrev from : ℕ
  from = taken s q.before

  -- the words that the clock is shown with differ from those of s in the viewport only
  alike : Alike (shown_words here) s.screen.words
  alike =
      alike-trans (shown_words here) here.screen.words s.screen.words (shown-alike here)
      i.alike

  same-timing : timing (shown_words here) ≡ timing s.screen.words
  same-timing = ap timing alike

  -- so reading the pins by the words of s gives the same
  reads : {A : Type 0} (f : Words → Clock → A) → ((w : Words) (v : _) (k : Clock) → f (with_viewport w v) k ≡ f w k)
      → f s.screen.words q.shown.clock
      ≡ f (shown_words here)
      (clock_at (shown_words here) here.position (next_colour here q.lent))
  reads f same =
      ap (f s.screen.words) (step-clock here q.lent q.shown q.done)
      ∙ sym (same s.screen.words (viewport_of (shown_words here)) clock)
      ∙ ap (λ (w : Words). f w clock) (sym alike)
    where
      clock : Clock
      clock = clock_at (shown_words here) here.position (next_colour here q.lent)

  vden : vden_active s.screen.words q.shown.clock ≡ shows_pixel (spot_at (timing s.screen.words) (from % frame_of s))
  vden =
      reads vden_active (λ w v k. refl)
      ∙ vden-at-pixels (shown_words here) here.position (next_colour here q.lent)
      ∙ ap₂ (λ (t : Timing) (p : ℕ). shows_pixel (spot_at t p)) same-timing i.position

  -- what the clock shows, by its number in the list
  shown-colour : before_invvd s.screen.words q.shown.clock
      ≡ spot_colour (shown_screen here) q.lent
      (spot_at (timing s.screen.words) (from % frame_of s))
  unfolding before_invvd next_colour
  shown-colour =
      reads before_invvd (λ w v k. refl)
      ∙ colour-read (shown_words here) here.position
      (next_colour here q.lent) (next-colour-lines here q.lent)
      ∙ ap₂ (λ (t : Timing) (p : ℕ). spot_colour (shown_screen here) q.lent (spot_at t p))
      (ap timing i.alike) i.position

  pub step_counts : clocks here (a_step q.lent) ≡ 1
  unfolding clocks or_else
  step_counts = ap (or_else (λ k. 1) 0) q.done

  pub step-shows : (x : PixelAt s from)
      → (vden_active s.screen.words q.shown.clock ≡ true)
      × (accepted (before_invvd s.screen.words q.shown.clock) ≡ pixel_colour s calls q.lent from x)
  unfolding shows_pixel spot_colour
  step-shows x = (
    vden ∙ ap shows_pixel shows-it,
    ap accepted
        (shown-colour
        ∙ ap (spot_colour (shown_screen here) q.lent) shows-it)
        ∙ sym (frame-colour s calls q.before (a_step q.lent) q.inside i q.lent false
        (step-passed here q.lent q.shown q.done) (omega (arith, step_counts)) x.row x.column
        x.on-panel.row x.on-panel.column)
        ∙ ap (λ (f : ℕ). frame_colour s calls f q.lent x.row x.column) (its-frame s from x),
  )
    where
      shows-it : spot_at (timing s.screen.words) (from % frame_of s) ≡ Some (record { row = x.row; column = x.column })
      shows-it =
          at-shows (timing s.screen.words) (from % frame_of s) x.row x.column
          (pixel-position s from x)

  pub step-blank : (PixelAt s from → ⊥)
      → (vden_active s.screen.words q.shown.clock ≡ false) × (before_invvd s.screen.words q.shown.clock ≡ 0)
  unfolding shows_pixel spot_colour
  step-blank none = go (shows (timing s.screen.words) (from % frame_of s))
    where
      go : Shows (timing s.screen.words) (from % frame_of s)
          → (vden_active s.screen.words q.shown.clock ≡ false) × (before_invvd s.screen.words q.shown.clock ≡ 0)
      go (pixel r c a e) = absurd (none (position-pixel s from r c a))
      go (blank other e) = (
        vden ∙ ap shows_pixel e,
        shown-colour ∙ ap (spot_colour (shown_screen here) q.lent) e,
      )

  pub step-active : vden_active s.screen.words q.shown.clock ≡ true → PixelAt s from
  unfolding shows_pixel
  step-active active = go (shows (timing s.screen.words) (from % frame_of s))
    where
      go : Shows (timing s.screen.words) (from % frame_of s) → PixelAt s from
      go (pixel r c a e) = position-pixel s from r c a
      go (blank other e) = absurd (true≢false (sym active ∙ vden ∙ ap shows_pixel e))

  pub step-vsync : vsync_active s.screen.words q.shown.clock
      ≡ ltb (from % frame_of s / line_clocks (timing s.screen.words)) (vspw s.screen.words + 1)
  step-vsync =
      reads vsync_active (λ w v k. refl)
      ∙ vsync-in-sync-lines (shown_words here) here.position
      (next_colour here q.lent)
      ∙ ap₂ (λ (w : Words) (p : ℕ). ltb (p / line_clocks (timing w)) (vspw w + 1)) alike i.position

  pub step-hsync : hsync_active s.screen.words q.shown.clock
      ≡ ltb (from % frame_of s % line_clocks (timing s.screen.words)) (hspw s.screen.words + 1)
  step-hsync =
      reads hsync_active (λ w v k. refl)
      ∙ hsync-in-sync-clocks (shown_words here) here.position
      (next_colour here q.lent)
      ∙ ap₂ (λ (w : Words) (p : ℕ). ltb (p % line_clocks (timing w)) (hspw w + 1)) alike i.position
