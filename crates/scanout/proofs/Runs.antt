-- What the accepted runs of a list write (§8.4).
use mathlib.Core.List.{List}
use mathlib.Core.Path.{◌≡◌, sym, ap, ap₂, ◌∙◌}
use Prim.Native.Nat.{ℕ, ◌+◌, ◌-◌, ◌*◌, ◌/◌, ◌%◌, min, ◌<◌, ◌≤◌}
use native.Mathlib.Nat.{mul_comm}
use native.Mathlib.Omega.{arith}
use borrow.Author.Tests.{ltb-false}
use lib.ListN.{length, get_or}
use Rattle.laws.specs.Answers.{accepted, or_else}
use Rattle.laws.specs.Storing.{stores}
use Rattle.laws.specs.StoringLaws.{length-stores, entry-stored, entry-outside}
use Rattle.drawing.specs.Drawing.{pixels}
use Rattle.registers.specs.Loading.{too_short}
use Rattle.panel.specs.Geometry.{width, height}
use Rattle.panel.specs.Timing.{timing}
use Rattle.signals.proofs.Positions.{At}
use Rattle.signals.proofs.ReadingOrder.{before-pixel, after-pixel, further, at-most-all, Between, between}
use Rattle.signals.specs.Pixel.{pixels_before}
use Rattle.scanout.specs.Calls.{count_of}
use Rattle.scanout.specs.FrameByFrame.{PixelAt, entry_of, frame_colour, pixel_colour, RunIn, left_by, RunTakes}
use Rattle.scanout.specs.Lists.{a_run, Calls, final, clocks, taken}
use Rattle.scanout.specs.State.{frame_of}
use Rattle.scanout.specs.declared.state.State.{State}
use Rattle.scanout.proofs.Acceptance.{short-passes}
use Rattle.scanout.proofs.Effects.{run-passed, run-count, run-left, run_room}
use Rattle.scanout.proofs.PixelTimes.{its-frame, pixel-position, position-pixel}
use Rattle.scanout.proofs.Schedule.{Schedule, same-frame, still-inside}
use Rattle.scanout.proofs.Steps.{frame-colour}
use Rattle.scanout.proofs.Stretch.{first, many, colours, same-colour, drawn-is-stretch}
use Rattle.scanout.proofs.Views.{some-frame}

module _ (s : State) (calls : Calls) (q : RunIn s calls) (i : Schedule s q.before) where
  -- the state that the call gets, and the number of its first clock
  abbrev here : State
  here = final s q.before

  abbrev from : ℕ
  from = taken s q.before

  count-is : q.answer.count ≡ count_of here q.number
  count-is = run-count here q.lent q.number q.picture q.answer q.done

  pub run-counts : q.answer.count ≡ min q.number (frame_of s - from % frame_of s)
  unfolding count_of
  run-counts = count-is ∙ ap₂ (λ (size p : ℕ). min q.number (size - p)) (same-frame s q.before i) i.position

  pub run-clocks : clocks here (a_run q.lent q.number q.picture) ≡ q.answer.count
  unfolding clocks or_else
  run-clocks = ap (or_else (λ t. t.count) 0) q.done

  -- the run stays in its frame
  fits : from % frame_of s + q.answer.count ≤ frame_of s
  fits =
      omega (
        arith,
        run_room here q.lent q.number q.picture q.answer q.done,
        count-is,
        i.position,
        same-frame s q.before i,
      )

  -- ---- the stretch

  same-timing : timing here.screen.words ≡ timing s.screen.words
  same-timing = ap timing i.alike

  first-is : first here q.lent ≡ pixels_before (timing s.screen.words) (from % frame_of s)
  first-is = ap₂ pixels_before same-timing i.position

  many_is : many here q.lent (count_of here q.number)
      ≡ pixels_before (timing s.screen.words) (from % frame_of s + q.answer.count)
      - pixels_before (timing s.screen.words) (from % frame_of s)
  many_is =
      ap₂ (λ (a b : ℕ). a - b)
      (ap₂ pixels_before same-timing (ap₂ ◌+◌ i.position (sym count-is))) first-is

  left_is : left_by s calls q
      ≡ stores (colours here q.lent) (first here q.lent)
      (many here q.lent (count_of here q.number)) q.picture
  left_is =
      run-left here q.lent q.number q.picture q.answer q.done
      ∙ drawn-is-stretch here q.lent (count_of here q.number) q.picture
      (run_room here q.lent q.number q.picture q.answer q.done)

  pub run_length : length (left_by s calls q) ≡ length q.picture
  run_length = ap length left_is ∙ length-stores _ _ _ q.picture

  -- the picture has room for it
  room : pixels_before (timing s.screen.words) (from % frame_of s + q.answer.count) ≤ length q.picture
  unfolding too_short
  room =
      omega (
        arith,
        at-most-all (timing s.screen.words) (from % frame_of s + q.answer.count),
        mul_comm (width s.screen.words) (height s.screen.words),
        ap pixels i.alike,
        ltb-false (length q.picture) (pixels here.screen.words)
            (short-passes here (length q.lent.memory) (length q.lent.palette)
            (too_short (length q.picture) (pixels here.screen.words))
            (run-passed here q.lent q.number q.picture q.answer q.done)),
      )

  -- ---- a clock of the run, by its number in the list

  pub clock-inside : (n : ℕ) → RunTakes s calls q n
      → (n / frame_of s ≡ from / frame_of s)
      × (n % frame_of s ≡ from % frame_of s + (n - from))
  clock-inside n u =
      let e : from + (n - from) ≡ n = omega (arith, u.from) in
      let h =
      still-inside from (n - from) (frame_of s) (some-frame s)
      (omega (arith, fits, u.from, u.before))
      in
      (ap (λ (k : ℕ). k / frame_of s) (sym e) ∙ h.0, ap (λ (k : ℕ). k % frame_of s) (sym e) ∙ h.1)

  module _ (n : ℕ) (x : PixelAt s n) (u : RunTakes s calls q n) where
    at : At (timing s.screen.words) (n % frame_of s) x.row x.column
    at = pixel-position s n x

    not-before : first here q.lent ≤ x.row * width s.screen.words + x.column
    not-before =
        omega (
          arith,
          first-is,
          before-pixel (timing s.screen.words) (n % frame_of s) x.row x.column at,
          further (timing s.screen.words) (from % frame_of s) (n % frame_of s) (omega (arith, (clock-inside n u).1)),
        )

    not-past : x.row * width s.screen.words + x.column
        < pixels_before (timing s.screen.words) (from % frame_of s + q.answer.count)
    not-past =
        omega (
          arith,
          after-pixel (timing s.screen.words) (n % frame_of s) x.row x.column at,
          further (timing s.screen.words) (n % frame_of s + 1) (from % frame_of s + q.answer.count)
              (omega (arith, (clock-inside n u).1, u.from, u.before)),
        )

    pub run-shows : accepted (get_or (left_by s calls q) (entry_of s n x) 0) ≡ pixel_colour s calls q.lent n x
    run-shows =
        ap accepted
        (ap (λ (p : List ℕ). get_or p (entry_of s n x) 0) left_is
        ∙ ap (λ (j : ℕ). get_or stored j 0) place
        ∙ entry-stored (colours here q.lent) (first here q.lent)
        (many here q.lent (count_of here q.number)) q.picture offset
        (omega (arith, room, first-is, many_is, not-before, not-past)) (omega (arith, first-is, many_is, not-before, not-past))
        ∙ sym (same-colour here q.lent (first here q.lent + offset) x.row x.column
        (sym place ∙ ap (λ (wide : ℕ). x.row * wide + x.column) (sym same_width)) (rw same_width x.on-panel.column)))
        ∙ sym (frame-colour s calls q.before (a_run q.lent q.number q.picture) q.inside i q.lent
        (too_short (length q.picture) (pixels here.screen.words))
        (run-passed here q.lent q.number q.picture q.answer q.done)
        (omega (arith, run-clocks, u.from, u.before)) x.row x.column x.on-panel.row x.on-panel.column)
        ∙ ap (λ (f : ℕ). frame_colour s calls f q.lent x.row x.column) (sym (clock-inside n u).0 ∙ its-frame s n x)
      where
        stored : List ℕ
        stored =
            stores (colours here q.lent) (first here q.lent)
            (many here q.lent (count_of here q.number)) q.picture

        offset : ℕ
        offset = x.row * width s.screen.words + x.column - first here q.lent

        place : x.row * width s.screen.words + x.column ≡ first here q.lent + offset
        place = omega (arith, not-before)

        same_width : width here.screen.words ≡ width s.screen.words
        same_width = ap width i.alike

  pub run-keeps : (j : ℕ) → ((n : ℕ) (x : PixelAt s n) → RunTakes s calls q n → entry_of s n x ≡ j → ⊥)
      → get_or (left_by s calls q) j 0 ≡ get_or q.picture j 0
  unfolding position-pixel
  run-keeps j none =
      ap (λ (p : List ℕ). get_or p j 0) left_is
      ∙ entry-outside (colours here q.lent) (first here q.lent)
      (many here q.lent (count_of here q.number)) q.picture j
      (λ k h e. outside
      (between (timing s.screen.words) (from % frame_of s) q.answer.count j (omega (arith, first-is))
      (omega (arith, first-is, many_is))))
    where
      outside : Between (timing s.screen.words) (from % frame_of s) q.answer.count j → ⊥
      outside b = none n x u b.entry
        where
          n : ℕ
          n = from + b.clocks

          u : RunTakes s calls q (from + b.clocks)
          u = record { from = omega arith; before = omega (arith, b.fewer) }

          position : from % frame_of s + b.clocks ≡ (from + b.clocks) % frame_of s
          position = omega (arith, (clock-inside (from + b.clocks) u).1)

          x : PixelAt s (from + b.clocks)
          x = position-pixel s (from + b.clocks) b.row b.column (rw (← position) b.at)
