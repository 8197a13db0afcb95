-- The schedule of the viewports over a list of calls (§8.3): where the position stands, which viewport is pending, and that in mid-frame
-- the viewport in force is the frame's.
use mathlib.Core.Path.{◌≡◌, refl, sym, ap, ap₂, ◌∙◌}
use Prim.Native.Nat.{ℕ, zero, suc, ◌+◌, ◌*◌, ◌/◌, ◌%◌, ◌<◌, ◌≤◌}
use native.Mathlib.Decide.{ℕ_discrete, dec_lt}
use native.Mathlib.Nat.{div-add-mod', mod-eq_of_lt, mod-add-mod, add-mul}
use native.Mathlib.Omega.{arith}
use lib.Arith.{digits_div, digits_mod}
use Rattle.panel.specs.Timing.{timing, frame_clocks}
use Rattle.registers.specs.declared.Words.{Words}
use Rattle.scanout.specs.Calls.{with_pending}
use Rattle.scanout.specs.Core.{moved}
use Rattle.scanout.specs.Lists.{Call, Calls, nothing, ◌then◌, final, taken, next, clocks, pending_after, last_viewport, frame_words}
use Rattle.scanout.specs.State.{with_viewport, frame_of, shown_words, after}
use Rattle.scanout.specs.declared.state.State.{State}
use Rattle.scanout.specs.declared.state.Viewport.{Viewport}
use Rattle.scanout.proofs.Effects.{Effect, takes, brings, effect}
use Rattle.scanout.proofs.Fronts.{begins-self, begins-longer, frame-words-in-front, frame-words-begin}
use Rattle.scanout.proofs.Views.{Alike, alike_self, alike-with, alike_same, alike-trans, shown-first, shown-later, some-frame, after-moved, window-start-after, pending-after, alike-after}

pub record Schedule (s : State) (cs : Calls) : Type 0 where
  pub position : (final s cs).position ≡ taken s cs % frame_of s
  pub window-start : (final s cs).screen.window_start ≡ s.screen.window_start
  pub pending : (final s cs).pending ≡ last_viewport s cs
  pub alike : Alike (final s cs).screen.words s.screen.words
  pub mid-frame : (taken s cs % frame_of s ≡ 0 → ⊥)
      → (final s cs).screen.words ≡ frame_words s cs (taken s cs / frame_of s)

-- the frame's length never changes
pub same-frame : (s : State) (cs : Calls) → Schedule s cs → frame_of (final s cs) ≡ frame_of s
same-frame s cs i = ap (λ (w : Words). frame_clocks (timing w)) i.alike

-- n clocks of a frame of `size`, from clock number `from` on, that do not end it
pub still-inside : (from n size : ℕ) → 0 < size → from % size + n < size → ((from + n) / size ≡ from / size) × ((from + n) % size ≡ from % size + n)
still-inside from n size pos h =
    let e : from + n ≡ from / size * size + (from % size + n) = omega (arith, div-add-mod' from size) in
    (ap (λ (x : ℕ). x / size) e ∙ digits_div (from / size) h, ap (λ (x : ℕ). x % size) e ∙ digits_mod (from / size) h)

-- and that end it
ends-frame : (from n size : ℕ) → 0 < size → from % size + n ≡ size → (from + n) % size ≡ 0
ends-frame from n size pos h =
    let e : from + n ≡ (from / size + 1) * size + 0 = omega (arith, div-add-mod' from size, add-mul (from / size) 1 size) in
    ap (λ (x : ℕ). x % size) e ∙ digits_mod (from / size + 1) pos

-- the viewport that a call's clocks are shown with is their frame's
pub shows-frame-words : (s : State) (cs : Calls) (c : Call) → Schedule s cs → 0 < clocks (final s cs) c
    → shown_words (final s cs) ≡ frame_words s (cs then c) (taken s cs / frame_of s)
shows-frame-words s cs c i some = go (ℕ_discrete (taken s cs % frame_of s) 0)
  where
    f : ℕ
    f = taken s cs / frame_of s

    whole : f * frame_of s + taken s cs % frame_of s ≡ taken s cs
    whole = div-add-mod' (taken s cs) (frame_of s)

    go : Dec (taken s cs % frame_of s ≡ 0) → shown_words (final s cs) ≡ frame_words s (cs then c) f
    go (yes z) =
        shown-first (final s cs) (i.position ∙ z)
        ∙ alike-with (final s cs).screen.words s.screen.words i.alike (final s cs).pending
        ∙ ap (with_viewport s.screen.words) i.pending
        ∙ sym (frame-words-begin s cs c f (omega (arith, whole, z)) some)
    go (no ne) =
        shown-later (final s cs) (λ z. ne (sym i.position ∙ z))
        ∙ i.mid-frame ne
        ∙ sym (frame-words-in-front s cs (cs then c) f (begins-longer cs cs c (begins-self cs)) (omega (arith, whole, ne)))

module _ (s : State) (cs : Calls) (c : Call) (i : Schedule s cs) where
  -- a call that takes clocks
  takes-some : (m : ℕ) → clocks (final s cs) c ≡ m → 0 < m → (final s cs).position + m ≤ frame_of (final s cs)
      → next (final s cs) c ≡ after m (final s cs) → ((v : Viewport) → pending_after (final s cs) v c ≡ v) → Schedule s (cs then c)
  unfolding final taken last_viewport
  takes-some m counts some room moves stays =
      record {
        position =
            ap (λ (t : State). t.position) (moves ∙ is-moved)
            ∙ ap₂ (λ (p size : ℕ). (p + m) % size) i.position (same-frame s cs i)
            ∙ mod-add-mod (taken s cs) (frame_of s) m
            ∙ ap (λ (k : ℕ). (taken s cs + k) % frame_of s) (sym counts);
        window-start = ap (λ (t : State). t.screen.window_start) moves ∙ window-start-after (final s cs) m ∙ i.window-start;
        pending =
            ap (λ (t : State). t.pending) moves
            ∙ pending-after (final s cs) m
            ∙ i.pending
            ∙ sym (stays (last_viewport s cs));
        alike =
            alike_same (next (final s cs) c).screen.words (after m (final s cs)).screen.words s.screen.words (ap (λ (t : State). t.screen.words) moves)
            (alike-trans (after m (final s cs)).screen.words (final s cs).screen.words s.screen.words (alike-after (final s cs) m) i.alike);
        mid-frame = λ ne.
            ap (λ (t : State). t.screen.words) (moves ∙ is-moved)
            ∙ shows-frame-words s cs c i (omega (arith, counts))
            ∙ ap (λ (k : ℕ). frame_words s (cs then c) k) (sym (same_number ne));
      }
    where
      is-moved : after m (final s cs) ≡ moved m (final s cs)
      is-moved = after-moved (final s cs) m some room

      fits : taken s cs % frame_of s + m ≤ frame_of s
      fits = omega (arith, room, i.position, same-frame s cs i)

      same_number : ((taken s cs + clocks (final s cs) c) % frame_of s ≡ 0 → ⊥)
          → (taken s cs + clocks (final s cs) c) / frame_of s ≡ taken s cs / frame_of s
      same_number ne = go (dec_lt (taken s cs % frame_of s + clocks (final s cs) c) (frame_of s))
        where
          go : Dec (taken s cs % frame_of s + clocks (final s cs) c < frame_of s)
              → (taken s cs + clocks (final s cs) c) / frame_of s ≡ taken s cs / frame_of s
          go (yes h) = (still-inside (taken s cs) (clocks (final s cs) c) (frame_of s) (some-frame s) h).0
          go (no h) = absurd (ne (ends-frame (taken s cs) (clocks (final s cs) c) (frame_of s) (some-frame s) (omega (arith, fits, counts))))

  -- a call that takes none, and may bring a viewport
  stands : next (final s cs) c ≡ with_pending (final s cs) (pending_after (final s cs) (last_viewport s cs) c) → clocks (final s cs) c ≡ 0
      → Schedule s (cs then c)
  unfolding final taken last_viewport
  stands moves counts =
      record {
        position = ap (λ (t : State). t.position) moves ∙ i.position ∙ ap (λ (k : ℕ). k % frame_of s) same_count;
        window-start = ap (λ (t : State). t.screen.window_start) moves ∙ i.window-start;
        pending = ap (λ (t : State). t.pending) moves;
        alike =
            alike_same (next (final s cs) c).screen.words (final s cs).screen.words s.screen.words (ap (λ (t : State). t.screen.words) moves) i.alike;
        mid-frame = λ ne.
            ap (λ (t : State). t.screen.words) moves
            ∙ i.mid-frame (λ z. ne (sym (ap (λ (k : ℕ). k % frame_of s) same_count) ∙ z))
            ∙ sym (same-words ne);
      }
    where
      same_count : taken s cs ≡ taken s cs + clocks (final s cs) c
      same_count = omega (arith, counts)

      same-words : ((taken s cs + clocks (final s cs) c) % frame_of s ≡ 0 → ⊥)
          → frame_words s (cs then c) ((taken s cs + clocks (final s cs) c) / frame_of s) ≡ frame_words s cs (taken s cs / frame_of s)
      same-words ne =
          ap (λ (k : ℕ). frame_words s (cs then c) (k / frame_of s)) (sym same_count)
          ∙ frame-words-in-front s cs (cs then c) (taken s cs / frame_of s) (begins-longer cs cs c (begins-self cs))
          (omega (arith, div-add-mod' (taken s cs) (frame_of s), begun))
        where
          begun : taken s cs % frame_of s ≡ 0 → ⊥
          begun z = ne (sym (ap (λ (k : ℕ). k % frame_of s) same_count) ∙ z)

  more : Effect (final s cs) c → Schedule s (cs then c)
  unfolding after
  more (takes zero counts room moves stays) =
      stands (moves ∙ ap (with_pending (final s cs)) (i.pending ∙ sym (stays (last_viewport s cs)))) counts
  more (takes (suc m) counts room moves stays) = takes-some (suc m) counts (omega arith) (room (omega arith)) moves stays
  more (brings v counts moves view) = stands (moves ∙ ap (with_pending (final s cs)) (sym (view (last_viewport s cs)))) counts

pub schedule : (s : State) → s.position ≡ 0 → (cs : Calls) → Schedule s cs
unfolding final taken last_viewport
schedule s e nothing =
    record {
      position = e ∙ sym none;
      window-start = refl;
      pending = refl;
      alike = alike_self s.screen.words;
      mid-frame = λ ne. absurd (ne none);
    }
  where
    none : 0 % frame_of s ≡ 0
    none = mod-eq_of_lt (some-frame s)
schedule s e (cs then c) = more s cs c (schedule s e cs) (effect (final s cs) c)
