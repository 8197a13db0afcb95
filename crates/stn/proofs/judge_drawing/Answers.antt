-- `stn::judge_drawing` meets its contract: 1 to 8, and then 9, 10 and 17.
use Rattle.std.specs.Prelude.{[], ◌∷◌}
use Rattle.laws.specs.Cases.{◌when◌}
use Rattle.laws.proofs.CaseLaws.{chain-ends}
use Rattle.registers.specs.Loading.{too_short}
use Rattle.registers.proofs.Refusals.{exits, exits-in-front}
use Rattle.panel.specs.Refusals.{video_off, clock_too_fast}
use Rattle.memory.specs.Memory.{stn_memory_cases, judge_stn_memory}
use Rattle.stn.specs.Drawing.{frame_bytes, stn_tail, judge_stn_drawing}
use Rattle.stn.proofs.judge_drawing.Goals as goal

pub returns-in_err-judge_stn_memory : goal.returns-in_err-judge_stn_memory
unfolding judge_stn_drawing judge_stn_memory
returns-in_err-judge_stn_memory c =
    let a = c.args in
    exits-in-front c.from_residual.result c.in_err-judge_stn_memory.field-0.0 c.from_residual.ensures.1
    (stn_memory_cases a.s a.lent) (stn_tail a.s.words a.room) 8 tt tt c.in_err-judge_stn_memory.ensures

pub returns-in_err-refuse_if : goal.returns-in_err-refuse_if
unfolding judge_stn_drawing judge_stn_memory
returns-in_err-refuse_if c =
    let a = c.args in
    let w = a.s.words in
    exits c.from_residual-in_err-refuse_if.result c.in_err-refuse_if.field-0.0 c.from_residual-in_err-refuse_if.ensures.1
    (stn_memory_cases a.s a.lent) [] (10 when too_short a.room (frame_bytes w) ∷ 17 when clock_too_fast w ∷ []) 8 9 (video_off w) tt tt
    c.in_ok-judge_stn_memory.ensures tt (rw c.video_off.ensures at c.in_err-refuse_if.ensures)

pub returns-in_err-refuse_if-2 : goal.returns-in_err-refuse_if-2
unfolding judge_stn_drawing judge_stn_memory too_short
returns-in_err-refuse_if-2 c =
    let a = c.args in
    let w = a.s.words in
    exits c.from_residual-in_err-refuse_if-2.result c.in_err-refuse_if-2.field-0.0 c.from_residual-in_err-refuse_if-2.ensures.1
    (stn_memory_cases a.s a.lent) (9 when video_off w ∷ []) (17 when clock_too_fast w ∷ []) 8 10 (too_short a.room (frame_bytes w)) tt tt
    c.in_ok-judge_stn_memory.ensures (rw c.video_off.ensures at c.in_ok-refuse_if.ensures, tt)
    (rw c.frame_bytes.ensures at c.in_err-refuse_if-2.ensures)

pub returns : goal.returns
unfolding judge_stn_drawing judge_stn_memory too_short
returns c =
    let a = c.args in
    let w = a.s.words in
    chain-ends (stn_memory_cases a.s a.lent) (9 when video_off w ∷ 10 when too_short a.room (frame_bytes w) ∷ []) 8 17 (clock_too_fast w)
    _ tt tt c.in_ok-judge_stn_memory.ensures
    (rw c.video_off.ensures at c.in_ok-refuse_if.ensures, (rw c.frame_bytes.ensures at c.in_ok-refuse_if-2.ensures, tt))
    (rw c.clock_too_fast.ensures at c.refuse_if-3.ensures)
