-- The four calls of a scan (§7.2 to §7.5): what each gives, refused or not. The claim of FrameByFrame is about lists of them. Promises
-- cite it, so a reader must believe it.
use Rattle.std.specs.Prelude.{false, Option, Some, None, List, ℕ, zero, suc, ◌+◌, ◌-◌, ◌*◌, min, length, set}
use Rattle.laws.specs.Answers.{Answer, judged, and_then, outcome}
use Rattle.drawing.specs.Colour.{Lent, colour}
use Rattle.drawing.specs.Drawing.{pixels}
use Rattle.panel.specs.Geometry.{width}
use Rattle.panel.specs.Timing.{timing}
use Rattle.panel.specs.declared.geometry.Place.{Place}
use Rattle.registers.specs.Loading.{load, too_short}
use Rattle.memory.specs.Memory.{screen}
use Rattle.memory.specs.declared.Screen.{Screen}
use Rattle.signals.specs.Clock.{clock_at}
use Rattle.signals.specs.Pixel.{spot_at}
use Rattle.scanout.specs.Refusals.{judge_start, judge_scan, judge_change}
use Rattle.scanout.specs.State.{viewport_of, frame_of, shown_words, shown_screen, advance, after}
use Rattle.scanout.specs.declared.run.Taken.{Taken}
use Rattle.scanout.specs.declared.state.State.{State}
use Rattle.scanout.specs.declared.state.Viewport.{Viewport}
use Rattle.scanout.specs.declared.step.Shown.{Shown}

-- ---- start (§7.2)

-- the state that a start gives: the viewport in the words is in force and pending, and clock 0 is next
abbrev pub begun : Screen → State
begun s = record { screen = s; pending = viewport_of s.words; position = 0 }

-- a start: fewer than nine words are refused first, by 10, then the nine are judged (§9.3)
unfoldable pub start : List ℕ → ℕ → List ℕ → Answer State
start words window-start memory =
    and_then (load words) (λ w. judged (judge_start (screen w window-start) (length memory)) (begun (screen w window-start)))

-- ---- step (§7.3)

-- the colour of what a clock shows, before INVVD: its pixel's (§5.5), and 0 where it is blank (§6.7)
unfoldable pub spot_colour : Screen → Lent → Option Place → ℕ
spot_colour s l (Some p) = colour s l p.row p.column
spot_colour s l None = 0

-- the colour of a state's next clock
unfoldable pub next_colour : State → Lent → ℕ
next_colour s l = spot_colour (shown_screen s) l (spot_at (timing s.screen.words) s.position)

-- a step is lent no slice besides memory and palette
unfoldable pub judge_step : State → Lent → ℕ
judge_step s l = judge_scan s (length l.memory) (length l.palette) false

-- what an accepted step gives: the levels of the next clock, and the state after it
abbrev pub one_clock : State → Lent → Shown
one_clock s l = record { clock = clock_at (shown_words s) s.position (next_colour s l); next = advance s }

-- a step: these, or the refusal
unfoldable pub step : State → Lent → Answer Shown
step s l = judged (judge_step s l) (one_clock s l)

-- ---- run (§7.4)

-- how many clocks a run takes: as many as it is asked for, or what is left of the frame where that is less
unfoldable pub count_of : State → ℕ → ℕ
count_of s n = min n (frame_of s - s.position)

-- what an accepted run gives: that count, and the state after as many single steps
abbrev pub many_clocks : State → ℕ → Taken
many_clocks s n = record { count = count_of s n; next = after (count_of s n) s }

-- the picture after a clock that shows this in colour v: a pixel's entry, r × W + c, then holds v; a blank clock writes nothing
unfoldable pub store : ℕ → Option Place → ℕ → List ℕ → List ℕ
store wide (Some p) v picture = set picture (p.row * wide + p.column) v
store wide None v picture = picture

-- the picture after a state's next clock
unfoldable pub store_next : State → Lent → List ℕ → List ℕ
store_next s l picture = store (width s.screen.words) (spot_at (timing s.screen.words) s.position) (next_colour s l) picture

-- the picture after n clocks: each clock writes the pixel that it shows, and no other entry changes
unfoldable pub drawn : ℕ → State → Lent → List ℕ → List ℕ
drawn zero s l picture = picture
drawn (suc n) s l picture = store_next (after n s) l (drawn n s l picture)

-- a run is judged as a step is, and by 10 for a picture of fewer than W × H entries too
unfoldable pub judge_run : State → Lent → List ℕ → ℕ
judge_run s l picture =
    judge_scan s (length l.memory) (length l.palette) (too_short (length picture) (pixels s.screen.words))

-- what a run gives, and the picture that it leaves
pub record Run : Type 0 where
  pub answer : Answer Taken
  pub left : List ℕ

-- the two put together
abbrev pub running : Answer Taken → List ℕ → Run
running answer left = record { answer = answer; left = left }

-- a run of at most n clocks: its count and next state, and the picture with its pixels written; or the refusal, and the picture as it
-- was. Asked for 0 clocks, an accepted run changes nothing
unfoldable pub run : State → Lent → ℕ → List ℕ → Run
run s l n picture =
    record {
      answer = judged (judge_run s l picture) (many_clocks s n);
      left = (outcome (judge_run s l picture) picture (drawn (count_of s n) s l picture)).left;
    }

-- ---- viewport change (§7.5)

-- a state with another pending viewport
abbrev pub with_pending : State → Viewport → State
with_pending s v = record { screen = s.screen; pending = v; position = s.position }

-- a viewport change: accepted, the new viewport is the pending one, and nothing else has changed
unfoldable pub change : State → List ℕ → Viewport → Answer State
change s memory v = judged (judge_change s (length memory) v) (with_pending s v)
