-- `scanout::start::start` meets its contract.
use Rattle.std.specs.Prelude.{length}
use Rattle.std.proofs.Common.{ap, refl}
use Rattle.laws.proofs.AnswerLaws.{goes_on, gives-answer}
use Rattle.memory.specs.Memory.{screen}
use Rattle.registers.specs.Loading.{load}
use Rattle.registers.proofs.Refusals.{answer-passes, refused-as}
use Rattle.scanout.specs.Calls.{begun, start}
use Rattle.scanout.specs.Refusals.{judge_start}
use Rattle.scanout.specs.declared.state.Viewport.{Viewport}
use Rattle.scanout.proofs.start.start.Goals as goal

pub returns-in_err-words : goal.returns-in_err-words
unfolding start
returns-in_err-words c =
    answer-passes c.from_residual.result c.in_err-words.field-0.0 (load c.args.words.now) _ c.from_residual.ensures.1 c.in_err-words.ensures

pub returns-in_err-judge_start : goal.returns-in_err-judge_start
unfolding start
returns-in_err-judge_start c =
    let exit = c.from_residual-in_err-judge_start in
    goes_on (load c.args.words.now) _ c.in_ok-words.words _ c.in_ok-words.ensures
    (refused-as exit.result c.in_err-judge_start.field-0.0 _ _ exit.ensures.1 c.in_err-judge_start.ensures)

pub returns : goal.returns
unfolding start
returns c =
    let s = screen c.in_ok-words.words c.args.window_start in
    goes_on (load c.args.words.now) _ c.in_ok-words.words _ c.in_ok-words.ensures
    (gives-answer 0 (judge_start s (length c.args.video.now)) (begun s) _ c.in_ok-judge_start.ensures refl
    (ap (λ (v : Viewport). record { screen = s; pending = v; position = 0 }) c.viewport_of.ensures))
