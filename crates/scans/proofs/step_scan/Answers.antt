-- `scans::step_scan` meets its contract: with room for the levels it is judged as the scan's step.
use Rattle.std.specs.Prelude.{◌≡◌, ◌<◌, true, false, List, [], ◌++◌, ℕ, length, drop}
use Rattle.std.specs.Array.{IsFirstChunk}
use Rattle.std.proofs.Common.{refl, ap, ap₂, ◌∙◌}
use Rattle.std.proofs.lemmas.Bool.{lt-ltb, le-ltb}
use Rattle.laws.specs.Answers.{Answer, accepted, refused, judged_on}
use Rattle.laws.specs.StoringLaws.{stored-front}
use Rattle.laws.proofs.AnswerLaws.{judges-on, goes_on, passes_on}
use Rattle.registers.specs.Loading.{too_short}
use Rattle.registers.specs.Refusals.{number, code}
use Rattle.registers.proofs.Refusals.{exit-code}
use Rattle.drawing.specs.Colour.{Lent, lending}
use Rattle.signals.specs.declared.clock.Clock.{Clock}
use Rattle.scanout.specs.Calls.{judge_step, step}
use Rattle.scanout.specs.Refusals.{judge_scan}
use Rattle.scanout.specs.declared.state.State.{State}
use Rattle.scanout.specs.declared.step.Shown.{Shown}
use Rattle.scans.specs.Scan.{load_scan, short_of_levels, levels, put_levels, step_on, step_leaves, step_left, step_scan}
use Rattle.scans.proofs.Calls.{loaded, state-put, stays, not-loaded, short-is-refused}
use Rattle.scans.proofs.step_scan.Goals as goal

as_step : (s : State) (l : Lent) (clock : List ℕ) → short_of_levels clock ≡ false → step s l ≡ step_on s l clock
unfolding step judge_step step_on
as_step s l clock room = rw room refl

module _ (scan memory palette clock : List ℕ) where
  unread : length scan < 13 → step_leaves 10 scan clock ≡ step_scan scan memory palette clock
  unfolding step_scan step_left
  unread t = ap (step_left scan clock) (passes_on (load_scan scan) (λ s. step_on s (lending memory palette) clock) 10 (not-loaded scan t))

  -- too few entries for the levels
  short : (r : ℕ) → short_of_levels clock ≡ true
      → r ≡ judged_on (load_scan scan) (λ s. judge_scan s (length memory) (length palette) true)
      → step_leaves r scan clock ≡ step_scan scan memory palette clock
  unfolding step_scan step_on step_left
  short r t e =
      ap (step_left scan clock) (short-is-refused (length memory) (length palette) (λ s. short_of_levels clock) (λ s. t) _ (load_scan scan) r e)

  -- with them it is the scan's step
  steps : (s : State) (x : Answer Shown) → accepted s ≡ load_scan scan → short_of_levels clock ≡ false → x ≡ step s (lending memory palette)
      → step_left scan clock x ≡ step_scan scan memory palette clock
  unfolding step_scan
  steps s x loads room e =
      ap (step_left scan clock)
      (goes_on (load_scan scan) (λ t. step_on t (lending memory palette) clock) s x loads (e ∙ as_step s (lending memory palette) clock room))

  enough : (part : List ℕ) → IsFirstChunk clock part 4 → short_of_levels clock ≡ false
  unfolding too_short
  enough part chunk = le-ltb (length clock) 4 chunk.enough

  levels-put : (part : List ℕ) → IsFirstChunk clock part 4 → (k : Clock) (new : List ℕ) → new ≡ levels k → new ++ drop 4 clock ≡ put_levels k clock
  unfolding put_levels
  levels-put part chunk k new e = ap (λ (p : List ℕ). p ++ drop 4 clock) e ∙ stored-front (levels k) clock chunk.enough

pub returns-in_default : goal.returns-in_default
returns-in_default c = unread _ _ _ _ c.in_default.ensures.cases

pub returns-in_default-first_chunk_mut : goal.returns-in_default-first_chunk_mut
unfolding too_short
returns-in_default-first_chunk_mut c =
    let scan = c.args.scan.now in
    let entries = c.in-Some.entries.now in
    let chunk = c.in-Some.ensures.cases in
    ap (λ (s : List ℕ). step_leaves (code c.judge_scan.result) s c.args.clock.now) (stays 13 scan entries chunk)
    ∙ short _ _ _ _ _ (lt-ltb _ _ c.in_default-first_chunk_mut.ensures.cases)
    (judges-on _ _ c.from-s.result _ (loaded scan entries chunk c.from-s.result c.from-s.ensures) c.judge_scan.ensures)

pub returns-in_err-shown : goal.returns-in_err-shown
unfolding step_left
returns-in_err-shown c =
    let scan = c.args.scan.now in
    let clock = c.args.clock.now in
    let entries = c.in-Some.entries.now in
    let levels = c.in-Some-first_chunk_mut.levels.now in
    let chunk = c.in-Some.ensures.cases in
    let chunk4 = c.in-Some-first_chunk_mut.ensures.cases in
    let refusal = c.in_err-shown.field-0.0 in
    ap₂ (step_leaves (code c.from_residual.result)) (stays 13 scan entries chunk) (stays 4 clock levels chunk4)
    ∙ ap (λ (n : ℕ). step_leaves n scan clock) (exit-code c.from_residual.result refusal c.from_residual.ensures.1)
    ∙ steps scan _ _ clock c.from-s.result (refused (number refusal)) (loaded scan entries chunk c.from-s.result c.from-s.ensures)
    (enough scan [] [] clock levels chunk4) c.in_err-shown.ensures

pub returns : goal.returns
unfolding step_left
returns c =
    let scan = c.args.scan.now in
    let clock = c.args.clock.now in
    let entries = c.in-Some.entries.now in
    let levels = c.in-Some-first_chunk_mut.levels.now in
    let chunk = c.in-Some.ensures.cases in
    let chunk4 = c.in-Some-first_chunk_mut.ensures.cases in
    let shown = c.in_ok-shown.shown in
    ap₂ (step_leaves 0) (state-put scan entries chunk shown.next c.into.result c.into.ensures)
    (levels-put scan [] [] clock levels chunk4 shown.clock c.levels_of.result c.levels_of.ensures)
    ∙ steps scan _ _ clock c.from-s.result (accepted shown) (loaded scan entries chunk c.from-s.result c.from-s.ensures)
    (enough scan [] [] clock levels chunk4) c.in_ok-shown.ensures
