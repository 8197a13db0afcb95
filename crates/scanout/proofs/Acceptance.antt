-- What it means that a step or run is accepted (§9.3): the next clock's viewport can be drawn from, the position lies in the frame, and
-- the state one clock on is accepted too.
use mathlib.Core.Bool.{Bool, false, not, ◌||◌}
use mathlib.Core.List.{[], ◌∷◌}
use mathlib.Core.Path.{◌≡◌, refl, ap, ◌∙◌}
use Prim.Native.Nat.{ℕ, ◌+◌, ◌<◌}
use native.Mathlib.Decide.{ℕ_discrete}
use native.Mathlib.Nat.{mod-lt}
use borrow.Author.Tests.{leb-false, lt-leb, eq-eqb}
use lib.Dec.{eqb, leb}
use lib.ListN.{length}
use Rattle.laws.specs.Answers.{judged, accepted}
use Rattle.laws.specs.BooleanLaws.{or-false, or-false-left, or-false-right}
use Rattle.laws.specs.Cases.{◌when◌, lowest, lower}
use Rattle.laws.specs.CaseLaws.{NoneHolds}
use Rattle.laws.proofs.CaseLaws.{lowest-zero-none-holds, joined-pass, pass-joined, none-of-one}
use Rattle.drawing.specs.Colour.{Lent, colour}
use Rattle.drawing.specs.Drawing.{palette_wrong, row_outside, column_outside, colour_tail, drawing_cases, judge_pixel, draw_pixel}
use Rattle.panel.specs.Refusals.{video_off}
use Rattle.memory.specs.Memory.{screen, memory_cases}
use Rattle.panel.specs.Geometry.{width, height}
use Rattle.registers.specs.Fields.{lcdbank}
use Rattle.registers.specs.declared.Words.{Words}
use Rattle.scanout.specs.Refusals.{bank_differs, past_frame, viewport_cases, state_cases, scan_tail, judge_scan}
use Rattle.scanout.specs.State.{with_viewport, frame_of, shown_words, advance, shown_screen}
use Rattle.scanout.specs.declared.state.State.{State}
use Rattle.scanout.proofs.Views.{Alike, alike-with, shown-first, shown-later, shown-alike, shown-frame, some-frame}

module _ (s : State) (lent entries : ℕ) (short : Bool) where
  pub record Passed : Type 0 where
    pub current : lowest (memory_cases s.screen lent) ≡ 0
    pub pending : lowest (viewport_cases s s.pending lent) ≡ 0
    pub on : video_off s.screen.words ≡ false
    pub slices : palette_wrong entries || short ≡ false
    pub bank : bank_differs s.screen.words s.pending ≡ false
    pub inside : s.position < frame_of s

  pub passed : judge_scan s lent entries short ≡ 0 → Passed
  unfolding judge_scan past_frame
  passed e =
      record {
        current = views.0;
        pending = views.1;
        on = none.0;
        slices = none.1.0;
        bank = none.1.1.0;
        inside = leb-false (frame_of s) s.position none.1.1.1.0;
      }
    where
      parts : (lowest (state_cases s lent) ≡ 0) × (lowest (scan_tail s entries short) ≡ 0)
      parts = joined-pass (state_cases s lent) (scan_tail s entries short) e

      views : (lowest (memory_cases s.screen lent) ≡ 0) × (lowest (viewport_cases s s.pending lent) ≡ 0)
      views = joined-pass (memory_cases s.screen lent) (viewport_cases s s.pending lent) parts.0

      none : NoneHolds (scan_tail s entries short)
      none = lowest-zero-none-holds 8 (scan_tail s entries short) tt parts.1

  pub judged-passed : Passed → judge_scan s lent entries short ≡ 0
  unfolding judge_scan past_frame lowest lower
  judged-passed p =
      pass-joined (state_cases s lent) (scan_tail s entries short)
      (pass-joined (memory_cases s.screen lent) (viewport_cases s s.pending lent) p.current p.pending)
      (rw (p.on, p.slices, p.bank, lt-leb (frame_of s) s.position p.inside) refl)

-- a state that a run accepts, a step accepts
pub as_step : (s : State) (lent entries : ℕ) (short : Bool) → Passed s lent entries short → Passed s lent entries false
as_step s lent entries short p =
    record {
      current = p.current;
      pending = p.pending;
      on = p.on;
      slices = or-false (or-false-left (palette_wrong entries) short p.slices) refl;
      bank = p.bank;
      inside = p.inside;
    }

-- ---- the next clock's words

pub alike-video : (w w' : Words) → Alike w w' → video_off w ≡ video_off w'
unfolding video_off
alike-video w w' a = ap video_off a

module _ (s : State) (lent entries : ℕ) (short : Bool) (p : Passed s lent entries short) where
  pub shown-on : video_off (shown_words s) ≡ false
  shown-on = alike-video (shown_words s) s.screen.words (shown-alike s) ∙ p.on

  pub shown-in-memory : lowest (memory_cases (shown_screen s) lent) ≡ 0
  shown-in-memory = go (ℕ_discrete s.position 0)
    where
      at : Words → ℕ
      at w = lowest (memory_cases (screen w s.screen.window_start) lent)

      go : Dec (s.position ≡ 0) → at (shown_words s) ≡ 0
      go (yes e) = ap at (shown-first s e) ∙ p.pending
      go (no ne) = ap at (shown-later s ne) ∙ p.current

  pub palette-passes : palette_wrong entries ≡ false
  palette-passes = or-false-left (palette_wrong entries) short p.slices

  pub short-passes : short ≡ false
  short-passes = or-false-right (palette_wrong entries) short p.slices

  -- a drawing from the next clock's words passes 1 to 10
  pub drawing-passes : (b : Bool) → b ≡ false → lowest (drawing_cases (shown_screen s) lent entries b) ≡ 0
  unfolding lowest lower
  drawing-passes b f =
      pass-joined (memory_cases (shown_screen s) lent)
      (colour_tail (shown_words s) entries b) shown-in-memory
      (rw (shown-on, palette-passes, f) refl)

  -- one clock on, a step or run is accepted too
  pub advance-passes : Passed (advance s) lent entries short
  unfolding advance bank_differs
  advance-passes =
      record {
        current = shown-in-memory;
        pending =
            ap (λ (w : Words). lowest (memory_cases (screen w s.screen.window_start) lent))
            (alike-with (shown_words s) s.screen.words (shown-alike s) s.pending)
            ∙ p.pending;
        on = shown-on;
        slices = p.slices;
        bank = go (ℕ_discrete s.position 0);
        inside = rw (shown-frame s) (mod-lt (s.position + 1) (some-frame s));
      }
    where
      bank-of : Words → Bool
      bank-of w = not (eqb (lcdbank (with_viewport w s.pending)) (lcdbank w))

      go : Dec (s.position ≡ 0) → bank-of (shown_words s) ≡ false
      go (yes e) =
          ap bank-of (shown-first s e)
          ∙ ap not (eq-eqb (lcdbank (with_viewport s.screen.words s.pending)) (lcdbank (with_viewport s.screen.words s.pending)) refl)
      go (no ne) = ap bank-of (shown-later s ne) ∙ p.bank

-- ---- drawing from them

module _ (s : State) (l : Lent) (short : Bool) (p : Passed s (length l.memory) (length l.palette) short) where
  -- drawing one pixel gives its colour
  pub pixel-drawn : (r c : ℕ) → r < height s.screen.words → c < width s.screen.words
      → draw_pixel (shown_screen s) l r c ≡ accepted (colour (shown_screen s) l r c)
  unfolding draw_pixel judge_pixel judged row_outside column_outside
  pixel-drawn r c h k =
      ap (λ (n : ℕ). judged n (colour (shown_screen s) l r c))
      (pass-joined (drawing_cases (shown_screen s) (length l.memory) (length l.palette) false)
      (11 when (row_outside (shown_words s) r || column_outside (shown_words s) c) ∷ [])
      (drawing-passes s (length l.memory) (length l.palette) short p false refl)
      (none-of-one 11 (row_outside (shown_words s) r || column_outside (shown_words s) c)
      (or-false
      (ap (λ (w : Words). leb (height w) r) (shown-alike s) ∙ lt-leb (height s.screen.words) r h)
      (ap (λ (w : Words). leb (width w) c) (shown-alike s) ∙ lt-leb (width s.screen.words) c k))))
