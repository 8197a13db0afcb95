-- `scanout::step::step` meets its contract.
use Rattle.std.specs.Prelude.{Option, ◌≡◌, ℕ}
use Rattle.std.proofs.Common.{refl, sym, ap, ap₂, ◌∙◌, arith}
use Rattle.laws.proofs.AnswerLaws.{gives-answer}
use Rattle.registers.proofs.Refusals.{refused-as}
use Rattle.drawing.specs.Colour.{contents}
use Rattle.memory.specs.declared.Screen.{Screen}
use Rattle.panel.specs.Timing.{Timing, timing}
use Rattle.panel.specs.declared.geometry.Place.{Place}
use Rattle.signals.specs.Clock.{clock_of, clock_at}
use Rattle.signals.specs.Parts.{parts_at}
use Rattle.signals.specs.Pixel.{spot_of, spot_at}
use Rattle.signals.specs.declared.clock.Clock.{Clock}
use Rattle.signals.specs.declared.parts.Parts.{Parts}
use Rattle.scanout.specs.Calls.{judge_step, spot_colour, next_colour, step}
use Rattle.scanout.specs.State.{shown_screen, advance}
use Rattle.scanout.specs.declared.state.State.{State}
use Rattle.scanout.proofs.Acceptance.{passed}
use Rattle.scanout.proofs.Views.{shown-timing}
use Rattle.scanout.proofs.step.step.Goals as goal

pub returns-in_err-judge_scan : goal.returns-in_err-judge_scan
unfolding step judge_step
returns-in_err-judge_scan c =
    refused-as c.from_residual.result c.in_err-judge_scan.field-0.0 _ _ c.from_residual.ensures.1 c.in_err-judge_scan.ensures

pub moved-requires : goal.moved-requires
moved-requires c = omega (arith, (passed _ _ _ _ (sym c.in_ok-judge_scan.ensures)).inside)

pub returns : goal.returns
unfolding step judge_step advance clock_at next_colour spot_at
returns c =
    let s = c.args.s in
    let l = contents c.args.lent in
    let parts_are : c.parts_at-parts.result ≡ parts_at (timing (shown_screen s).words) s.position =
    c.parts_at-parts.ensures ∙ ap (λ (x : Screen). parts_at (timing x.words) s.position) c.shown_screen-shown.ensures in
    let colour : c.spot_colour-colour.result ≡ next_colour s l =
    c.spot_colour-colour.ensures
    ∙ ap₂ (λ (x : Screen) (k : Option Place). spot_colour x l k) c.shown_screen-shown.ensures
    (c.spot_of.ensures ∙ ap (λ (p : Parts). spot_of p.line p.clock) parts_are)
    ∙ ap (λ (t : Timing). spot_colour (shown_screen s) l (spot_at t s.position)) (shown-timing s) in
    gives-answer 0 _ _ _ c.in_ok-judge_scan.ensures refl
    (ap₂ (λ (k : Clock) (t : State). record { clock = k; next = t })
    (c.clock_of.ensures
    ∙ ap₂ (λ (x : Screen) (p : Parts). clock_of x.words p.line p.clock c.spot_colour-colour.result)
    c.shown_screen-shown.ensures parts_are
    ∙ ap (λ (v : ℕ). clock_at (shown_screen s).words s.position v) colour)
    c.moved.ensures)
