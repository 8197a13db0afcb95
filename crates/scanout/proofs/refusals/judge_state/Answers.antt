-- `scanout::refusals::judge_state` meets its contract: where the two viewports are the same, so are their numbers.
use Rattle.std.specs.Prelude.{true, ◌&&◌, ◌≡◌, ℕ, eqb}
use Rattle.std.proofs.Common.{refl, sym, ap, ap₂, ◌∙◌}
use Rattle.std.proofs.lemmas.Bool.{eqb-true}
use Rattle.laws.specs.BooleanLaws.{both_true}
use Rattle.laws.specs.Cases.{lower, lowest}
use Rattle.laws.proofs.CaseLaws.{lower-same, lowest-joined}
use Rattle.memory.specs.Memory.{memory_cases, judge_memory}
use Rattle.scanout.specs.Refusals.{viewport_cases}
use Rattle.scanout.specs.State.{viewport_of}
use Rattle.scanout.specs.declared.state.State.{State}
use Rattle.scanout.specs.declared.state.Viewport.{Viewport}
use Rattle.scanout.proofs.refusals.judge_state.Goals as goal

same-views : (s : State) (lent : ℕ) (v : Viewport) → v ≡ viewport_of s.screen.words
    → eqb s.pending.lcdsaddr1 v.lcdsaddr1 && eqb s.pending.lcdsaddr2 v.lcdsaddr2 ≡ true
    → lowest (viewport_cases s s.pending lent) ≡ lowest (memory_cases s.screen lent)
same-views s lent v is e =
    let t = both_true (eqb s.pending.lcdsaddr1 v.lcdsaddr1) (eqb s.pending.lcdsaddr2 v.lcdsaddr2) e in
    rw (
      eqb-true s.pending.lcdsaddr1 s.screen.words.lcdsaddr1 (rw is at t.0),
      eqb-true s.pending.lcdsaddr2 s.screen.words.lcdsaddr2 (rw is at t.1),
    )
    refl

pub returns-then-eq : goal.returns-then-eq
unfolding judge_memory
returns-then-eq c =
    let a = c.args in
    let number = lowest (memory_cases a.s.screen a.lent) in
    c.judge_memory-current.ensures
    ∙ sym
    (lowest-joined (memory_cases a.s.screen a.lent) (viewport_cases a.s a.s.pending a.lent)
    ∙ ap (lower number) (same-views a.s a.lent c.viewport_of.result c.viewport_of.ensures (sym c.eq.ensures ∙ c.if-eq.true))
    ∙ lower-same number)

pub returns : goal.returns
unfolding judge_memory
returns c =
    let a = c.args in
    c.lower.ensures
    ∙ ap₂ lower c.judge_memory-current.ensures c.judge_viewport.ensures
    ∙ sym (lowest-joined (memory_cases a.s.screen a.lent) (viewport_cases a.s a.s.pending a.lent))
