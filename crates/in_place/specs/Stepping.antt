-- What a step in place answers and leaves (§12.2): the answer of the step by value (§7.3), and the state that the next call of a list
-- gets (§8.1). Promises cite it, so a reader must believe it.
use Rattle.laws.specs.Answers.{Answer, mapped}
use Rattle.registers.specs.Refusals.{answer}
use Rattle.drawing.specs.Colour.{Lent}
use Rattle.scanout.specs.Calls.{step}
use Rattle.scanout.specs.Lists.{a_step, next}
use Rattle.scanout.specs.declared.state.State.{State}
use Rattle.signals.specs.declared.clock.Clock.{Clock}
use Rattle.in_place.specs.declared.Placed.{Placed}

-- what a step answers, and the state it leaves
pub record Left : Type 0 where
  pub answer : Answer Clock
  pub state : State

abbrev pub leaving : Answer Clock → State → Left
leaving a s = record { answer = a; state = s }

abbrev pub placed : Placed → Left
placed p = leaving (answer p.answer) p.state

-- §12.2: the levels that the step by value gives, or its number; the next state, or the old one where it is refused (§9.5)
unfoldable pub step_in_place : State → Lent → Left
step_in_place s l = leaving (mapped (λ k. k.clock) (step s l)) (next s (a_step l))
