-- `memory::judge_check` meets its contract: 1 to 7, then 8 and 17.
use Rattle.std.specs.Prelude.{[], ◌∷◌}
use Rattle.std.proofs.Common.{sym}
use Rattle.laws.specs.Cases.{◌when◌}
use Rattle.laws.proofs.CaseLaws.{chain-ends}
use Rattle.registers.proofs.Refusals.{exits, exits-in-front}
use Rattle.panel.specs.Refusals.{either_cases, judge_either, clock_too_fast}
use Rattle.memory.specs.Memory.{outside_memory, judge_check}
use Rattle.memory.proofs.judge_check.Goals as goal

pub returns-in_err-judge_either : goal.returns-in_err-judge_either
unfolding judge_check judge_either
returns-in_err-judge_either c =
    let s = c.args.s in
    exits-in-front c.from_residual.result c.in_err-judge_either.field-0.0 c.from_residual.ensures.1 (either_cases s.words)
    (8 when outside_memory s c.args.lent ∷ 17 when clock_too_fast s.words ∷ []) 7 tt tt c.in_err-judge_either.ensures

pub outside_memory-requires : goal.outside_memory-requires
outside_memory-requires c = sym c.in_ok-judge_either.ensures

pub returns-in_err-refuse_if : goal.returns-in_err-refuse_if
unfolding judge_check judge_either
returns-in_err-refuse_if c =
    let s = c.args.s in
    exits c.from_residual-in_err-refuse_if.result c.in_err-refuse_if.field-0.0 c.from_residual-in_err-refuse_if.ensures.1 (either_cases s.words) []
    (17 when clock_too_fast s.words ∷ []) 7 8 (outside_memory s c.args.lent) tt tt c.in_ok-judge_either.ensures tt
    (rw c.outside_memory.ensures at c.in_err-refuse_if.ensures)

pub returns : goal.returns
unfolding judge_check judge_either
returns c =
    let s = c.args.s in
    chain-ends (either_cases s.words) (8 when outside_memory s c.args.lent ∷ []) 7 17 (clock_too_fast s.words) _ tt tt
    c.in_ok-judge_either.ensures (rw c.outside_memory.ensures at c.in_ok-refuse_if.ensures, tt)
    (rw c.clock_too_fast.ensures at c.refuse_if-2.ensures)
