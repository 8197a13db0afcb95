-- `memory::judge_memory` meets its contract: 1 to 7, then 8.
use Rattle.std.specs.Prelude.{[], ◌∷◌}
use Rattle.std.proofs.Common.{sym}
use Rattle.laws.specs.Cases.{◌when◌}
use Rattle.laws.proofs.CaseLaws.{chain-ends}
use Rattle.registers.proofs.Refusals.{exits-in-front}
use Rattle.panel.specs.Refusals.{word_cases, judge}
use Rattle.panel.proofs.Accepted.{either-of-tft}
use Rattle.memory.specs.Memory.{outside_memory, judge_memory}
use Rattle.memory.proofs.judge_memory.Goals as goal

pub returns-in_err-judge : goal.returns-in_err-judge
unfolding judge_memory judge
returns-in_err-judge c =
    exits-in-front c.from_residual.result c.in_err-judge.field-0.0 c.from_residual.ensures.1 (word_cases c.args.s.words)
    (8 when outside_memory c.args.s c.args.lent ∷ []) 7 tt tt c.in_err-judge.ensures

pub outside_memory-requires : goal.outside_memory-requires
outside_memory-requires c = either-of-tft c.args.s.words (sym c.in_ok-judge.ensures)

pub returns : goal.returns
unfolding judge_memory judge
returns c =
    chain-ends (word_cases c.args.s.words) [] 7 8 (outside_memory c.args.s c.args.lent) _ tt tt c.in_ok-judge.ensures tt
    (rw c.outside_memory.ensures at c.refuse_if.ensures)
