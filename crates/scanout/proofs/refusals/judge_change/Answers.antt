-- `scanout::refusals::judge_change` meets its contract: 1 to 8 of all three viewports, then 9, 13, 15.
use Rattle.std.specs.Prelude.{◌||◌, ◌++◌, ◌≡◌, [], ◌∷◌, ℕ}
use Rattle.std.proofs.Common.{sym, ap₂, ◌∙◌}
use Rattle.laws.specs.Cases.{Case, ◌when◌, lower, lowest}
use Rattle.laws.proofs.CaseLaws.{lowest-joined, chain-ends}
use Rattle.registers.proofs.Refusals.{exits, exits-in-front}
use Rattle.panel.specs.Refusals.{video_off}
use Rattle.scanout.specs.Refusals.{bank_differs, past_frame, viewport_cases, state_cases, change_tail, judge_change}
use Rattle.scanout.specs.declared.state.State.{State}
use Rattle.scanout.specs.declared.state.Viewport.{Viewport}
use Rattle.scanout.proofs.refusals.judge_change.Goals as goal

module _ (s : State) (lent : ℕ) (v : Viewport) where
  joined : (n a b : ℕ) → n ≡ lower a b → a ≡ lowest (state_cases s lent) → b ≡ lowest (viewport_cases s v lent)
      → n ≡ lowest (state_cases s lent ++ viewport_cases s v lent)
  joined n a b e p q = e ∙ ap₂ lower p q ∙ sym (lowest-joined (state_cases s lent) (viewport_cases s v lent))

  abbrev off : Case
  off = 9 when video_off s.screen.words

  abbrev bank : Case
  bank = 13 when (bank_differs s.screen.words v || bank_differs s.screen.words s.pending)

  abbrev past : Case
  past = 15 when past_frame s

pub returns-in_err-lower : goal.returns-in_err-lower
unfolding judge_change
returns-in_err-lower c =
    let a = c.args in
    exits-in-front c.from_residual.result c.in_err-lower.field-0.0 c.from_residual.ensures.1
    (state_cases a.s a.lent ++ viewport_cases a.s a.v a.lent) (change_tail a.s a.v) 8 tt tt
    (joined a.s a.lent a.v _ _ _ c.in_err-lower.ensures c.judge_state.ensures c.judge_viewport.ensures)

pub returns-in_err-refuse_if : goal.returns-in_err-refuse_if
unfolding judge_change
returns-in_err-refuse_if c =
    let a = c.args in
    let exit = c.from_residual-in_err-refuse_if in
    exits exit.result c.in_err-refuse_if.field-0.0 exit.ensures.1 (state_cases a.s a.lent ++ viewport_cases a.s a.v a.lent) []
    (bank a.s a.lent a.v ∷ past a.s a.lent a.v ∷ []) 8 9 (off a.s a.lent a.v).holds tt tt
    (joined a.s a.lent a.v _ _ _ c.in_ok-lower.ensures c.judge_state.ensures c.judge_viewport.ensures) tt
    (rw c.video_off.ensures at c.in_err-refuse_if.ensures)

pub returns-in_err-refuse_if-2 : goal.returns-in_err-refuse_if-2
unfolding judge_change
returns-in_err-refuse_if-2 c =
    let a = c.args in
    let exit = c.from_residual-in_err-refuse_if-2 in
    exits exit.result c.in_err-refuse_if-2.field-0.0 exit.ensures.1 (state_cases a.s a.lent ++ viewport_cases a.s a.v a.lent)
    (off a.s a.lent a.v ∷ []) (past a.s a.lent a.v ∷ []) 8 13 (bank a.s a.lent a.v).holds tt tt
    (joined a.s a.lent a.v _ _ _ c.in_ok-lower.ensures c.judge_state.ensures c.judge_viewport.ensures)
    (rw c.video_off.ensures at c.in_ok-refuse_if.ensures, tt)
    (rw (c.bank_differs.ensures, c.bank_differs-2.ensures) at c.in_err-refuse_if-2.ensures)

pub returns : goal.returns
unfolding judge_change
returns c =
    let a = c.args in
    chain-ends (state_cases a.s a.lent ++ viewport_cases a.s a.v a.lent) (off a.s a.lent a.v ∷ bank a.s a.lent a.v ∷ []) 8 15
    (past a.s a.lent a.v).holds _ tt tt
    (joined a.s a.lent a.v _ _ _ c.in_ok-lower.ensures c.judge_state.ensures c.judge_viewport.ensures) (
      rw c.video_off.ensures at c.in_ok-refuse_if.ensures,
      (rw (c.bank_differs.ensures, c.bank_differs-2.ensures) at c.in_ok-refuse_if-2.ensures, tt),
    )
    (rw c.past_frame.ensures at c.refuse_if-3.ensures)
