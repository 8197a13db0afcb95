-- `drawing::refusals::judge_drawing` meets its contract: 1 to 8, and then 9 and 10.
use mathlib.Core.Bool.{◌||◌}
use mathlib.Core.List.{[], ◌∷◌}
use Rattle.laws.specs.Cases.{◌when◌}
use Rattle.laws.proofs.CaseLaws.{chain-ends}
use Rattle.registers.proofs.Refusals.{exits, exits-in-front}
use Rattle.panel.specs.Refusals.{video_off}
use Rattle.memory.specs.Memory.{memory_cases, judge_memory}
use Rattle.drawing.specs.Drawing.{palette_wrong, colour_tail, judge_drawing}
use Rattle.drawing.proofs.refusals.judge_drawing.Goals as goal

pub returns-in_err-judge_memory : goal.returns-in_err-judge_memory
unfolding judge_drawing judge_memory
returns-in_err-judge_memory c =
    let a = c.args in
    exits-in-front c.from_residual.result c.in_err-judge_memory.field-0.0 c.from_residual.ensures.1
    (memory_cases a.s a.lent) (colour_tail a.s.words a.entries a.short) 8 tt tt c.in_err-judge_memory.ensures

pub returns-in_err-refuse_if : goal.returns-in_err-refuse_if
unfolding judge_drawing judge_memory
returns-in_err-refuse_if c =
    let a = c.args in
    exits c.from_residual-in_err-refuse_if.result c.in_err-refuse_if.field-0.0 c.from_residual-in_err-refuse_if.ensures.1
    (memory_cases a.s a.lent) [] (10 when (palette_wrong a.entries || a.short) ∷ []) 8 9 (video_off a.s.words) tt tt
    c.in_ok-judge_memory.ensures tt (rw c.video_off.ensures at c.in_err-refuse_if.ensures)

pub returns : goal.returns
unfolding judge_drawing judge_memory
returns c =
    let a = c.args in
    chain-ends (memory_cases a.s a.lent) (9 when video_off a.s.words ∷ []) 8 10
    (palette_wrong a.entries || a.short) _ tt tt c.in_ok-judge_memory.ensures
    (rw c.video_off.ensures at c.in_ok-refuse_if.ensures, tt) (rw c.palette_wrong.ensures at c.refuse_if-2.ensures)
