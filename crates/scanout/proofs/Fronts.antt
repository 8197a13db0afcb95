-- The front of a list of calls (§8.1): the clocks that it took stay taken, and the calls before one of them are the same in the whole
-- list. These laws never look into a call.
use mathlib.Core.Bool.{Bool, true, false, false≢true}
use mathlib.Core.Logic.{inl, inr}
use mathlib.Core.Path.{◌≡◌, refl, ap}
use Prim.Native.Nat.{ℕ, ◌+◌, ◌*◌, ◌<◌, ◌≤◌}
use native.Mathlib.Omega.{arith}
use borrow.Author.Tests.{lt-ltb, le-ltb}
use Rattle.scanout.specs.Lists.{Call, Calls, nothing, ◌then◌, Begins, final, clocks, taken, last_viewport, calls_before, frame_viewport, frame_words}
use Rattle.scanout.specs.State.{with_viewport, frame_of}
use Rattle.scanout.specs.declared.state.State.{State}

-- ---- fronts

pub begins-self : (cs : Calls) → Begins cs cs
unfolding Begins
begins-self nothing = refl
begins-self (cs then c) = inl refl

pub begins-longer : (part cs : Calls) (c : Call) → Begins part cs → Begins part (cs then c)
unfolding Begins
begins-longer part cs c b = inr b

pub begins-trans : (a b cs : Calls) → Begins a b → Begins b cs → Begins a cs
unfolding Begins
begins-trans a b nothing p q = rw q at p
begins-trans a b (cs then c) p (inl e) = rw e at p
begins-trans a b (cs then c) p (inr q) = inr (begins-trans a b cs p q)

pub begins-shorter : (part cs : Calls) (c : Call) → Begins (part then c) cs → Begins part cs
begins-shorter part cs c b = begins-trans part (part then c) cs (begins-longer part part c (begins-self part)) b

-- ---- the parts of a list

empty : Calls → Bool
empty nothing = true
empty (cs then c) = false

pub not-nothing : (cs : Calls) (c : Call) → (cs then c) ≡ nothing → ⊥
unfolding empty
not-nothing cs c e = false≢true (ap empty e)

front : Calls → Calls
front nothing = nothing
front (cs then c) = cs

pub same-front : (cs cs' : Calls) (c c' : Call) → (cs then c) ≡ (cs' then c') → cs ≡ cs'
unfolding front
same-front cs cs' c c' e = ap front e

-- ---- clocks taken

module _ (s : State) where
  pub taken_more : (cs : Calls) (c : Call) → taken s (cs then c) ≡ taken s cs + clocks (final s cs) c
  unfolding taken
  taken_more cs c = refl

  pub taken-front : (part cs : Calls) → Begins part cs → taken s part ≤ taken s cs
  unfolding Begins taken
  taken-front part nothing e = rw e (omega arith)
  taken-front part (cs then c) (inl e) = rw e (omega arith)
  taken-front part (cs then c) (inr b) = omega (arith, taken-front part cs b)

  -- ---- the calls before a clock

  pub before-in-front : (part cs : Calls) (n : ℕ) → Begins part cs → n < taken s part → calls_before s n cs ≡ calls_before s n part
  unfolding Begins calls_before
  before-in-front part nothing n e h = rw e refl
  before-in-front part (cs then c) n (inl e) h = rw e refl
  before-in-front part (cs then c) n (inr b) h =
      rw (lt-ltb n (taken s cs) (omega (arith, taken-front part cs b))) (before-in-front part cs n b h)

  pub before_last : (cs : Calls) (c : Call) (n : ℕ) → taken s cs ≤ n → n < taken s (cs then c) → calls_before s n (cs then c) ≡ cs
  unfolding calls_before
  before_last cs c n h k = rw (le-ltb n (taken s cs) h, lt-ltb n (taken s (cs then c)) k) refl

  -- a frame that has begun keeps its viewport
  frame-viewport-in-front : (part cs : Calls) (f : ℕ) → Begins part cs → f * frame_of s < taken s part
      → frame_viewport s cs f ≡ frame_viewport s part f
  unfolding frame_viewport
  frame-viewport-in-front part cs f b h = ap (last_viewport s) (before-in-front part cs (f * frame_of s) b h)

  -- a frame that begins with a call has the viewport that was pending before it
  frame-viewport-begins : (cs : Calls) (c : Call) (f : ℕ) → f * frame_of s ≡ taken s cs → 0 < clocks (final s cs) c
      → frame_viewport s (cs then c) f ≡ last_viewport s cs
  unfolding frame_viewport
  frame-viewport-begins cs c f e h =
      ap (last_viewport s) (before_last cs c (f * frame_of s) (omega (arith, e)) (omega (arith, e, taken_more cs c)))

  -- and so for the words that a frame is scanned with
  pub frame-words-in-front : (part cs : Calls) (f : ℕ) → Begins part cs → f * frame_of s < taken s part
      → frame_words s cs f ≡ frame_words s part f
  unfolding frame_words
  frame-words-in-front part cs f b h = ap (with_viewport s.screen.words) (frame-viewport-in-front part cs f b h)

  pub frame-words-begin : (cs : Calls) (c : Call) (f : ℕ) → f * frame_of s ≡ taken s cs → 0 < clocks (final s cs) c
      → frame_words s (cs then c) f ≡ with_viewport s.screen.words (last_viewport s cs)
  unfolding frame_words
  frame-words-begin cs c f e h = ap (with_viewport s.screen.words) (frame-viewport-begins cs c f e h)
