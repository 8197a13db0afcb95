-- The scan in slices (§10.4): start, step, run and viewport change (§7.2 to §7.5) on a state that lies in 13 entries. In fewer entries
-- step, run and viewport change have no state to judge, so for them 10 comes first (§9.3). Promises cite it, so a reader must believe it.
use Rattle.std.specs.Prelude.{Bool, ◌||◌, List, [], ◌∷◌, ℕ, length, set}
use Rattle.laws.specs.Answers.{Answer, accepted, refused, judged, and_then, Outcome, leaves, outcome, outcome_on}
use Rattle.laws.specs.Cases.{◌when◌, lowest}
use Rattle.drawing.specs.Colour.{Lent, lending}
use Rattle.drawing.specs.Drawing.{pixels}
use Rattle.registers.specs.Loading.{too_short, begun_with}
use Rattle.signals.specs.declared.clock.Clock.{Clock}
use Rattle.scanout.specs.State.{state_of, entries_of}
use Rattle.scanout.specs.declared.run.Taken.{Taken}
use Rattle.scanout.specs.declared.step.Shown.{Shown}
use Rattle.scanout.specs.Calls.{start, one_clock, many_clocks, drawn, change}
use Rattle.scanout.specs.Refusals.{judge_scan}
use Rattle.scanout.specs.declared.state.State.{State}
use Rattle.scanout.specs.declared.state.Viewport.{Viewport}

-- ---- the state in its slice (§10.4)

-- the slice with the state stored in it; further entries stay
unfoldable pub put_state : State → List ℕ → List ℕ
put_state s scan = begun_with (entries_of s) scan

-- 10 (§9.3): fewer than 13 entries for the state
abbrev pub short_of_state : List ℕ → Bool
short_of_state scan = too_short (length scan) 13

abbrev pub judge_slice : List ℕ → ℕ
judge_slice scan = lowest (10 when short_of_state scan ∷ [])

-- the state in a slice, or 10
unfoldable pub load_scan : List ℕ → Answer State
load_scan scan = judged (judge_slice scan) (state_of scan)

-- ---- start (§7.2)

-- the slice with the new state stored in it, or 10 where it has no room
unfoldable pub put_started : State → List ℕ → Outcome
put_started s scan = outcome (judge_slice scan) scan (put_state s scan)

-- the state that a start gives, stored; a refused start leaves the slice
unfoldable pub start_scan : List ℕ → ℕ → List ℕ → List ℕ → Outcome
start_scan words window-start memory scan = outcome_on (start words window-start memory) scan (λ s. put_started s scan)

-- ---- step (§7.3)

-- the levels of a clock (§6.7), in the slice's order
abbrev pub levels : Clock → List ℕ
levels k = k.vsync ∷ k.hsync ∷ k.vden ∷ k.vd ∷ []

-- the slice with the levels stored in it; further entries stay
unfoldable pub put_levels : Clock → List ℕ → List ℕ
put_levels k clock = begun_with (levels k) clock

-- 10 (§9.3): fewer than four entries for the levels
abbrev pub short_of_levels : List ℕ → Bool
short_of_levels clock = too_short (length clock) 4

-- judged as a step, and by that 10 too
unfoldable pub step_on : State → Lent → List ℕ → Answer Shown
step_on s l clock =
    judged (judge_scan s (length l.memory) (length l.palette) (short_of_levels clock))
    (one_clock s l)

-- what a step leaves: its number, the scan's slice and the slice of levels
pub record StepLeft : Type 0 where
  pub refusal : ℕ
  pub scan : List ℕ
  pub clock : List ℕ

abbrev pub step_leaves : ℕ → List ℕ → List ℕ → StepLeft
step_leaves n scan clock = record { refusal = n; scan = scan; clock = clock }

-- accepted: the next state and the levels; refused: both slices as they were (§9.5)
unfoldable pub step_left : List ℕ → List ℕ → Answer Shown → StepLeft
step_left scan clock (accepted k) = step_leaves 0 (put_state k.next scan) (put_levels k.clock clock)
step_left scan clock (refused n) = step_leaves n scan clock

-- a step of the state in the slice
unfoldable pub step_scan : List ℕ → List ℕ → List ℕ → List ℕ → StepLeft
step_scan scan memory palette clock =
    step_left scan clock (and_then (load_scan scan) (λ s. step_on s (lending memory palette) clock))

-- ---- run (§7.4)

-- 10 (§9.3): no entry for the count
abbrev pub short_of_count : List ℕ → Bool
short_of_count taken = too_short (length taken) 1

-- judged as a run, and by that 10 too
unfoldable pub run_on : State → Lent → ℕ → List ℕ → List ℕ → Answer Taken
run_on s l n picture taken =
    judged
    (judge_scan s (length l.memory) (length l.palette)
    (too_short (length picture) (pixels s.screen.words) || short_of_count taken))
    (many_clocks s n)

-- what a run leaves: its number, the scan's slice, the picture and the slice of the count
pub record RunLeft : Type 0 where
  pub refusal : ℕ
  pub scan : List ℕ
  pub picture : List ℕ
  pub taken : List ℕ

abbrev pub run_leaves : ℕ → List ℕ → List ℕ → List ℕ → RunLeft
run_leaves n scan picture taken = record { refusal = n; scan = scan; picture = picture; taken = taken }

-- accepted: the next state, the colours of the clocks taken and their count; refused: all slices as they were (§9.5)
unfoldable pub run_left : Lent → List ℕ → List ℕ → List ℕ → Answer Taken → RunLeft
run_left l scan picture taken (accepted t) =
    run_leaves 0 (put_state t.next scan) (drawn t.count (state_of scan) l picture) (set taken 0 t.count)
run_left l scan picture taken (refused m) = run_leaves m scan picture taken

-- a run of the state in the slice
unfoldable pub run_scan : List ℕ → List ℕ → List ℕ → ℕ → List ℕ → List ℕ → RunLeft
run_scan scan memory palette n picture taken =
    run_left (lending memory palette) scan picture taken
    (and_then (load_scan scan) (λ s. run_on s (lending memory palette) n picture taken))

-- ---- viewport change (§7.5)

-- accepted: the new viewport is the pending one
unfoldable pub change_on : State → List ℕ → Viewport → List ℕ → Outcome
change_on s memory v scan = outcome_on (change s memory v) scan (λ t. leaves 0 (put_state t scan))

-- a viewport change of the state in the slice; a and b are the new LCDSADDR1 and LCDSADDR2
unfoldable pub change_scan : List ℕ → List ℕ → ℕ → ℕ → Outcome
change_scan scan memory a b =
    outcome_on (load_scan scan) scan (λ s. change_on s memory (record { lcdsaddr1 = a; lcdsaddr2 = b }) scan)
