-- `in_place::step_in_place` meets its contract.
use mathlib.Core.Path.{ap, ◌∙◌}
use Rattle.laws.specs.Answers.{Answer}
use Rattle.registers.proofs.Refusals.{exit-answer}
use Rattle.signals.specs.declared.clock.Clock.{Clock}
use Rattle.in_place.specs.Stepping.{leaving}
use Rattle.in_place.proofs.Outcomes.{accepted-moves, refused-stays}
use Rattle.in_place.proofs.step_in_place.Goals as goal

pub returns-in_err-shown : goal.returns-in_err-shown
returns-in_err-shown c =
    ap (λ (a : Answer Clock). leaving a c.args.s.now) (exit-answer _ _ c.from_residual.ensures.1)
    ∙ refused-stays _ _ _ c.in_err-shown.ensures

pub returns : goal.returns
returns c = accepted-moves _ _ _ _ c.in_ok-shown.ensures
