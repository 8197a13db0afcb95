-- `scanout::refusals::judge_scan` meets its contract: 1 to 8 of both viewports, then 9, 10, 13, 15.
use Rattle.std.specs.Prelude.{Bool, ◌||◌, [], ◌∷◌, ℕ}
use Rattle.laws.specs.Cases.{Case, ◌when◌}
use Rattle.laws.proofs.CaseLaws.{chain-ends}
use Rattle.registers.proofs.Refusals.{exits, exits-in-front}
use Rattle.drawing.specs.Drawing.{palette_wrong}
use Rattle.panel.specs.Refusals.{video_off}
use Rattle.scanout.specs.Refusals.{bank_differs, past_frame, state_cases, scan_tail, judge_scan}
use Rattle.scanout.specs.declared.state.State.{State}
use Rattle.scanout.proofs.refusals.judge_scan.Goals as goal

abbrev off : State → Case
off s = 9 when video_off s.screen.words

abbrev slices : ℕ → Bool → Case
slices entries short = 10 when (palette_wrong entries || short)

abbrev bank : State → Case
bank s = 13 when bank_differs s.screen.words s.pending

abbrev past : State → Case
past s = 15 when past_frame s

pub returns-in_err-judge_state : goal.returns-in_err-judge_state
unfolding judge_scan
returns-in_err-judge_state c =
    let a = c.args in
    exits-in-front c.from_residual.result c.in_err-judge_state.field-0.0 c.from_residual.ensures.1 (state_cases a.s a.lent)
    (scan_tail a.s a.entries a.short) 8 tt tt c.in_err-judge_state.ensures

pub returns-in_err-refuse_if : goal.returns-in_err-refuse_if
unfolding judge_scan
returns-in_err-refuse_if c =
    let a = c.args in
    let exit = c.from_residual-in_err-refuse_if in
    exits exit.result c.in_err-refuse_if.field-0.0 exit.ensures.1 (state_cases a.s a.lent) []
    (slices a.entries a.short ∷ bank a.s ∷ past a.s ∷ []) 8 9 (off a.s).holds tt tt c.in_ok-judge_state.ensures tt
    (rw c.video_off.ensures at c.in_err-refuse_if.ensures)

pub returns-in_err-refuse_if-2 : goal.returns-in_err-refuse_if-2
unfolding judge_scan
returns-in_err-refuse_if-2 c =
    let a = c.args in
    let exit = c.from_residual-in_err-refuse_if-2 in
    exits exit.result c.in_err-refuse_if-2.field-0.0 exit.ensures.1 (state_cases a.s a.lent) (off a.s ∷ [])
    (bank a.s ∷ past a.s ∷ []) 8 10 (slices a.entries a.short).holds tt tt c.in_ok-judge_state.ensures
    (rw c.video_off.ensures at c.in_ok-refuse_if.ensures, tt)
    (rw c.palette_wrong.ensures at c.in_err-refuse_if-2.ensures)

pub returns-in_err-refuse_if-3 : goal.returns-in_err-refuse_if-3
unfolding judge_scan
returns-in_err-refuse_if-3 c =
    let a = c.args in
    let exit = c.from_residual-in_err-refuse_if-3 in
    exits exit.result c.in_err-refuse_if-3.field-0.0 exit.ensures.1 (state_cases a.s a.lent)
    (off a.s ∷ slices a.entries a.short ∷ []) (past a.s ∷ []) 8 13 (bank a.s).holds tt tt c.in_ok-judge_state.ensures
    (rw c.video_off.ensures at c.in_ok-refuse_if.ensures, (rw c.palette_wrong.ensures at c.in_ok-refuse_if-2.ensures, tt))
    (rw c.bank_differs.ensures at c.in_err-refuse_if-3.ensures)

pub returns : goal.returns
unfolding judge_scan
returns c =
    let a = c.args in
    chain-ends (state_cases a.s a.lent) (off a.s ∷ slices a.entries a.short ∷ bank a.s ∷ []) 8 15
    (past a.s).holds _ tt tt c.in_ok-judge_state.ensures (
      rw c.video_off.ensures at c.in_ok-refuse_if.ensures,
      (rw c.palette_wrong.ensures at c.in_ok-refuse_if-2.ensures, (rw c.bank_differs.ensures at c.in_ok-refuse_if-3.ensures, tt)),
    )
    (rw c.past_frame.ensures at c.refuse_if-4.ensures)
