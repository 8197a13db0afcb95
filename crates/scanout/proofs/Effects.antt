-- What one call does to the state (§7.3 to §7.5): it takes some clocks of the frame, none where it is refused, or it brings a pending
-- viewport. A further kind of call is one more case here; Fronts and Schedule never look into a call.
use mathlib.Core.Bool.{false}
use mathlib.Core.List.{List}
use mathlib.Core.Path.{◌≡◌, refl, sym, ap, ◌∙◌}
use Prim.Native.Nat.{ℕ, zero, suc, ◌+◌, ◌<◌, ◌≤◌}
use native.Mathlib.Omega.{arith}
use lib.ListN.{length}
use Rattle.drawing.specs.Colour.{Lent}
use Rattle.laws.specs.Answers.{Answer, accepted, refused, outcome, or_else}
use Rattle.laws.proofs.AnswerLaws.{judged-accepted, judged-refused, is-refused, else-kept}
use Rattle.drawing.specs.Drawing.{pixels}
use Rattle.registers.specs.Loading.{too_short}
use Rattle.signals.specs.Clock.{clock_at}
use Rattle.scanout.specs.declared.run.Taken.{Taken}
use Rattle.scanout.specs.declared.step.Shown.{Shown}
use Rattle.scanout.specs.Calls.{next_colour, judge_step, step, count_of, drawn, judge_run, run, with_pending, change}
use Rattle.scanout.specs.Lists.{Call, a_step, a_run, a_change, refusal, next, clocks, pending_after, picture_after}
use Rattle.scanout.specs.Refusals.{judge_change}
use Rattle.scanout.specs.State.{frame_of, shown_words, advance, after}
use Rattle.scanout.specs.declared.state.State.{State}
use Rattle.scanout.specs.declared.state.Viewport.{Viewport}
use Rattle.scanout.proofs.Acceptance.{Passed, passed}

-- ---- an accepted step

module _ (s : State) (l : Lent) (k : Shown) (e : step s l ≡ accepted k) where
  step_value : (judge_step s l ≡ 0)
      × (record { clock = clock_at (shown_words s) s.position (next_colour s l); next = advance s } ≡ k)
  unfolding step
  step_value =
      judged-accepted (judge_step s l)
      (record { clock = clock_at (shown_words s) s.position (next_colour s l); next = advance s }) k e

  pub step-passed : Passed s (length l.memory) (length l.palette) false
  unfolding judge_step
  step-passed = passed s (length l.memory) (length l.palette) false step_value.0

  pub step-clock : k.clock ≡ clock_at (shown_words s) s.position (next_colour s l)
  step-clock = ap (λ (x : Shown). x.clock) (sym step_value.1)

  pub step-next : k.next ≡ advance s
  step-next = ap (λ (x : Shown). x.next) (sym step_value.1)

-- ---- an accepted run

module _ (s : State) (l : Lent) (n : ℕ) (picture : List ℕ) (t : Taken) (e : (run s l n picture).answer ≡ accepted t) where
  run_value : (judge_run s l picture ≡ 0) × (record { count = count_of s n; next = after (count_of s n) s } ≡ t)
  unfolding run
  run_value = judged-accepted (judge_run s l picture) (record { count = count_of s n; next = after (count_of s n) s }) t e

  pub run-passed : Passed s (length l.memory) (length l.palette) (too_short (length picture) (pixels s.screen.words))
  unfolding judge_run
  run-passed = passed s (length l.memory) (length l.palette) (too_short (length picture) (pixels s.screen.words)) run_value.0

  pub run-count : t.count ≡ count_of s n
  run-count = ap (λ (x : Taken). x.count) (sym run_value.1)

  pub run-next : t.next ≡ after (count_of s n) s
  run-next = ap (λ (x : Taken). x.next) (sym run_value.1)

  pub run-left : (run s l n picture).left ≡ drawn (count_of s n) s l picture
  unfolding run outcome
  run-left = ap (λ (k : ℕ). (outcome k picture (drawn (count_of s n) s l picture)).left) run_value.0

  pub run_room : s.position + count_of s n ≤ frame_of s
  unfolding count_of
  run_room = omega (arith, run-passed.inside)

-- a refused run leaves its picture
pub refused-run-left : (s : State) (l : Lent) (n : ℕ) (picture : List ℕ) (k : ℕ) → (run s l n picture).answer ≡ refused k
    → (run s l n picture).left ≡ picture
unfolding run outcome
refused-run-left s l n picture k e =
    go (judge_run s l picture) (judged-refused (judge_run s l picture) (record { count = count_of s n; next = after (count_of s n) s }) k e).1
  where
    go : (m : ℕ) → 0 < m → (outcome m picture (drawn (count_of s n) s l picture)).left ≡ picture
    go zero h = absurd (omega arith)
    go (suc m) h = refl

-- ---- the effect of a call

pub data Effect (s : State) (c : Call) : Type 0 where
  takes : (m : ℕ) → clocks s c ≡ m → (0 < m → s.position + m ≤ frame_of s) → next s c ≡ after m s
      → ((v : Viewport) → pending_after s v c ≡ v) → Effect s c
  brings : (v : Viewport) → clocks s c ≡ 0 → next s c ≡ with_pending s v → ((u : Viewport) → pending_after s u c ≡ v) → Effect s c

module _ (s : State) where
  of-step : (l : Lent) (a : Answer Shown) → step s l ≡ a → Effect s (a_step l)
  unfolding clocks next pending_after or_else after
  of-step l (accepted k) e =
      takes 1 (ap (or_else (λ x. 1) 0) e) (λ h. omega (arith, (step-passed s l k e).inside))
      (ap (or_else (λ x. x.next) s) e ∙ step-next s l k e) (λ v. refl)
  of-step l (refused n) e = takes 0 (ap (or_else (λ x. 1) 0) e) (λ h. absurd (omega arith)) (ap (or_else (λ x. x.next) s) e) (λ v. refl)

  of-run : (l : Lent) (n : ℕ) (picture : List ℕ) (a : Answer Taken) → (run s l n picture).answer ≡ a → Effect s (a_run l n picture)
  unfolding clocks next pending_after or_else after
  of-run l n picture (accepted t) e =
      takes (count_of s n) (ap (or_else (λ x. x.count) 0) e ∙ run-count s l n picture t e)
      (λ h. run_room s l n picture t e) (ap (or_else (λ x. x.next) s) e ∙ run-next s l n picture t e) (λ v. refl)
  of-run l n picture (refused k) e =
      takes 0 (ap (or_else (λ x. x.count) 0) e) (λ h. absurd (omega arith)) (ap (or_else (λ x. x.next) s) e) (λ v. refl)

  of-change : (memory : List ℕ) (v : Viewport) (a : Answer State) → change s memory v ≡ a → Effect s (a_change memory v)
  unfolding clocks next pending_after or_else after change
  of-change memory v (accepted t) e =
      brings v refl
      (ap (or_else (λ x. x) s) e
      ∙ sym (judged-accepted (judge_change s (length memory) v) (with_pending s v) t e).1) (λ u. ap (or_else (λ x. v) u) e)
  of-change memory v (refused k) e =
      takes 0 refl (λ h. absurd (omega arith)) (ap (or_else (λ x. x) s) e) (λ u. ap (or_else (λ x. v) u) e)

  pub effect : (c : Call) → Effect s c
  effect (a_step l) = of-step l (step s l) refl
  effect (a_run l n picture) = of-run l n picture (run s l n picture).answer refl
  effect (a_change memory v) = of-change memory v (change s memory v) refl

-- ---- a refused call changes nothing

pub record Unchanged (s : State) (c : Call) : Type 0 where
  pub state : next s c ≡ s
  pub none : clocks s c ≡ 0
  pub view : (v : Viewport) → pending_after s v c ≡ v
  pub picture : (p : List ℕ) → picture_after s p c ≡ p

module _ (s : State) where
  pub refused-answer : (l : Lent) (n : ℕ) (picture : List ℕ) → (refusal s (a_run l n picture) ≡ 0 → ⊥)
      → (run s l n picture).answer ≡ refused (refusal s (a_run l n picture))
  unfolding refusal
  refused-answer l n picture ne = is-refused (run s l n picture).answer ne

  pub unchanged : (c : Call) → (refusal s c ≡ 0 → ⊥) → Unchanged s c
  unfolding refusal next clocks pending_after picture_after
  unchanged (a_step l) ne =
      record {
        state = else-kept _ s (step s l) ne;
        none = else-kept _ 0 (step s l) ne;
        view = λ v. refl;
        picture = λ p. refl;
      }
  unchanged (a_run l n picture) ne =
      record {
        state = else-kept _ s (run s l n picture).answer ne;
        none = else-kept _ 0 (run s l n picture).answer ne;
        view = λ v. refl;
        picture = λ p. else-kept _ p (run s l n picture).answer ne;
      }
  unchanged (a_change memory v) ne =
      record {
        state = else-kept _ s (change s memory v) ne;
        none = refl;
        view = λ u. else-kept _ u (change s memory v) ne;
        picture = λ p. refl;
      }
