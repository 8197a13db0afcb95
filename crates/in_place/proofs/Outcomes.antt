-- The two outcomes of a step in place (§12.2): refused, the answer is the number and the state stays; accepted, the answer is the clock
-- and the state is the next one. After a list of calls, the state in place is the one that the list's claim (§8) speaks of.
use mathlib.Core.Path.{◌≡◌, refl, ap, ap₂}
use Prim.Native.Nat.{ℕ}
use Rattle.laws.specs.Answers.{accepted, refused, or_else}
use Rattle.laws.proofs.AnswerLaws.{maps, maps-refusal}
use Rattle.drawing.specs.Colour.{Lent}
use Rattle.scanout.specs.Calls.{step}
use Rattle.scanout.specs.Lists.{Calls, ◌then◌, a_step, next, final}
use Rattle.scanout.specs.declared.state.State.{State}
use Rattle.signals.specs.declared.clock.Clock.{Clock}
use Rattle.in_place.specs.Stepping.{leaving, step_in_place}

module _ (s : State) (l : Lent) where
  pub refused-stays : (n : ℕ) → refused n ≡ step s l → leaving (refused n) s ≡ step_in_place s l
  unfolding step_in_place next or_else
  refused-stays n e = ap₂ leaving (maps-refusal _ _ n e) (ap (or_else (λ k. k.next) s) e)

  pub accepted-moves : (k : Clock) (t : State) → accepted (record { clock = k; next = t }) ≡ step s l
      → leaving (accepted k) t ≡ step_in_place s l
  unfolding step_in_place next or_else
  accepted-moves k t e = ap₂ leaving (maps _ _ _ _ e refl) (ap (or_else (λ k. k.next) s) e)

-- a step in place after a list of calls leaves the state that the list leaves with that step added
pub one-step-more : (s : State) (cs : Calls) (l : Lent) → (step_in_place (final s cs) l).state ≡ final s (cs then a_step l)
unfolding step_in_place final
one-step-more s cs l = refl
