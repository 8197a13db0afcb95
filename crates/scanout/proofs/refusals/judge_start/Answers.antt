-- `scanout::refusals::judge_start` meets its contract: 1 to 8, then 9.
use Rattle.std.specs.Prelude.{[]}
use Rattle.laws.proofs.CaseLaws.{chain-ends}
use Rattle.registers.proofs.Refusals.{exits-in-front}
use Rattle.panel.specs.Refusals.{video_off}
use Rattle.memory.specs.Memory.{memory_cases, judge_memory}
use Rattle.scanout.specs.Refusals.{start_tail, judge_start}
use Rattle.scanout.proofs.refusals.judge_start.Goals as goal

pub returns-in_err-judge_memory : goal.returns-in_err-judge_memory
unfolding judge_start judge_memory
returns-in_err-judge_memory c =
    let s = c.args.s in
    exits-in-front c.from_residual.result c.in_err-judge_memory.field-0.0 c.from_residual.ensures.1 (memory_cases s c.args.lent)
    (start_tail s.words) 8 tt tt c.in_err-judge_memory.ensures

pub returns : goal.returns
unfolding judge_start judge_memory
returns c =
    let s = c.args.s in
    chain-ends (memory_cases s c.args.lent) [] 8 9 (video_off s.words) _ tt tt c.in_ok-judge_memory.ensures tt
    (rw c.video_off.ensures at c.refuse_if.ensures)
