-- The state through a frame (§7.6): the pending viewport takes over with clock 0 and stays in force to the frame's end, and nothing but
-- the viewport ever changes in the words.
use mathlib.Core.Path.{◌≡◌, refl, sym, ap, ap₂, ◌∙◌}
use Prim.Native.Nat.{ℕ, zero, suc, ◌+◌, ◌%◌, ◌<◌, ◌≤◌}
use native.Mathlib.Nat.{mod-eq_of_lt}
use native.Mathlib.Omega.{arith}
use borrow.Author.Tests.{eq-eqb, ne_eqb}
use lib.Dec.{eqb}
use Rattle.laws.specs.BooleanLaws.{either_way}
use Rattle.panel.proofs.Bounds.{frame-clocks-ge}
use Rattle.panel.specs.Timing.{timing, frame_clocks}
use Rattle.registers.specs.declared.Words.{Words}
use Rattle.memory.specs.Memory.{screen}
use Rattle.scanout.specs.Core.{moved}
use Rattle.scanout.specs.State.{viewport_of, with_viewport, frame_of, shown_words, advance, after}
use Rattle.scanout.specs.declared.state.State.{State}
use Rattle.scanout.specs.declared.state.Viewport.{Viewport}

-- ---- words that differ in the viewport only

abbrev pub Alike : Words → Words → Type 0
Alike w w' = w ≡ with_viewport w' (viewport_of w)

pub alike_self : (w : Words) → Alike w w
alike_self w = refl

-- with the same viewport put into them, they are the same
pub alike-with : (w w' : Words) → Alike w w' → (v : Viewport) → with_viewport w v ≡ with_viewport w' v
alike-with w w' a v = ap (λ (x : Words). with_viewport x v) a

pub alike-trans : (w w' w'' : Words) → Alike w w' → Alike w' w'' → Alike w w''
alike-trans w w' w'' a b = a ∙ alike-with w' w'' b (viewport_of w)

pub alike_same : (w w' w'' : Words) → w ≡ w' → Alike w' w'' → Alike w w''
alike_same w w' w'' e a = e ∙ a ∙ ap (λ (x : Words). with_viewport w'' (viewport_of x)) (sym e)

-- ---- the words that the next clock is shown with

pub shown-first : (s : State) → s.position ≡ 0 → shown_words s ≡ with_viewport s.screen.words s.pending
unfolding shown_words
shown-first s e = rw (eq-eqb s.position 0 e) refl

pub shown-later : (s : State) → (s.position ≡ 0 → ⊥) → shown_words s ≡ s.screen.words
unfolding shown_words
shown-later s ne = rw (ne_eqb s.position 0 ne) refl

pub shown-alike : (s : State) → Alike (shown_words s) s.screen.words
unfolding shown_words
shown-alike s = either_way (λ shown. Alike shown s.screen.words) (eqb s.position 0) refl refl

pub shown-timing : (s : State) → timing (shown_words s) ≡ timing s.screen.words
shown-timing s = ap timing (shown-alike s)

pub shown-frame : (s : State) → frame_clocks (timing (shown_words s)) ≡ frame_of s
shown-frame s = ap frame_clocks (shown-timing s)

pub some-frame : (s : State) → 0 < frame_of s
some-frame s = omega (arith, frame-clocks-ge s.screen.words)

-- ---- the state after n clocks of a frame

-- one more where the frame is not yet at its end
moved_on : (s : State) (n : ℕ) → 0 < n → s.position + n < frame_of s → advance (moved n s) ≡ moved (n + 1) s
unfolding advance
moved_on s n some room =
    ap₂ (λ (w : Words) (p : ℕ). record { screen = screen w s.screen.window_start; pending = s.pending; position = p })
    (shown-later (moved n s) (λ z. omega (arith, z, inside)))
    (ap₂ (λ (p size : ℕ). (p + 1) % size) inside (shown-frame s)
    ∙ ap (λ (p : ℕ). p % frame_of s) (omega arith))
  where
    inside : (s.position + n) % frame_of s ≡ s.position + n
    inside = mod-eq_of_lt room

pub after-moved : (s : State) (n : ℕ) → 0 < n → s.position + n ≤ frame_of s → after n s ≡ moved n s
unfolding after advance
after-moved s zero h room = absurd (omega arith)
after-moved s (suc zero) h room = refl
after-moved s (suc (suc n)) h room =
    ap advance (after-moved s (suc n) (omega arith) (omega arith))
    ∙ moved_on s (suc n) (omega arith) (omega arith)
    ∙ ap (λ (k : ℕ). moved k s) (omega arith)

pub shown-after : (s : State) (n : ℕ) → s.position + n < frame_of s → shown_words (after n s) ≡ shown_words s
unfolding after
shown-after s zero room = refl
shown-after s (suc n) room =
    ap shown_words (after-moved s (suc n) (omega arith) (omega arith))
    ∙ shown-later (moved (suc n) s) (λ z. omega (arith, z, mod-eq_of_lt room))

pub position-after : (s : State) (n : ℕ) → s.position + n < frame_of s → (after n s).position ≡ s.position + n
unfolding after
position-after s zero room = omega arith
position-after s (suc n) room =
    ap (λ (t : State). t.position) (after-moved s (suc n) (omega arith) (omega arith)) ∙ mod-eq_of_lt room

-- what no clock changes
pub window-start-after : (s : State) (n : ℕ) → (after n s).screen.window_start ≡ s.screen.window_start
unfolding after advance
window-start-after s zero = refl
window-start-after s (suc n) = window-start-after s n

pub pending-after : (s : State) (n : ℕ) → (after n s).pending ≡ s.pending
unfolding after advance
pending-after s zero = refl
pending-after s (suc n) = pending-after s n

pub alike-after : (s : State) (n : ℕ) → Alike (after n s).screen.words s.screen.words
unfolding after advance
alike-after s zero = refl
alike-after s (suc n) =
    alike-trans (shown_words (after n s)) (after n s).screen.words s.screen.words (shown-alike (after n s)) (alike-after s n)
