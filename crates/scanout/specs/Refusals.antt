-- What start, step, run and viewport change are judged by (§9.3). Step and run judge the viewport in force and the pending one, a
-- viewport change the new one too; a viewport is judged by putting it into the words (§9.4).
-- Promises cite it, so a reader must believe it.
use Rattle.std.specs.Prelude.{Bool, not, ◌||◌, List, [], ◌∷◌, ◌++◌, ℕ, eqb, leb}
use Rattle.laws.specs.Cases.{Case, ◌when◌, lowest}
use Rattle.drawing.specs.Drawing.{colour_tail}
use Rattle.panel.specs.Refusals.{video_off}
use Rattle.memory.specs.Memory.{screen, memory_cases}
use Rattle.memory.specs.declared.Screen.{Screen}
use Rattle.registers.specs.Fields.{lcdbank}
use Rattle.registers.specs.declared.Words.{Words}
use Rattle.scanout.specs.State.{with_viewport, frame_of}
use Rattle.scanout.specs.declared.state.State.{State}
use Rattle.scanout.specs.declared.state.Viewport.{Viewport}

-- 13 (§9.1, §7.1, §7.5): the LCDBANK of a viewport, the new or the pending one, is not the one in force
unfoldable pub bank_differs : Words → Viewport → Bool
bank_differs w v = not (eqb (lcdbank (with_viewport w v)) (lcdbank w))

-- 15 (§9.1, §7.1): the position is past the frame's last clock
unfoldable pub past_frame : State → Bool
past_frame s = leb (frame_of s) s.position

-- 1 to 8 of a state's words with this viewport in them (§9.4), by how many words of memory are lent
abbrev pub viewport_cases : State → Viewport → ℕ → List Case
viewport_cases s v lent = memory_cases (screen (with_viewport s.screen.words v) s.screen.window_start) lent

-- 1 to 8 of the viewport in force and of the pending one (§9.4)
abbrev pub state_cases : State → ℕ → List Case
state_cases s lent = memory_cases s.screen lent ++ viewport_cases s s.pending lent

-- what a step or a run judges after 1 to 8: 9, 10, 13, 15 (§9.3), by how many entries of the palette are lent and whether another lent
-- slice is too short
abbrev pub scan_tail : State → ℕ → Bool → List Case
scan_tail s entries short =
    colour_tail s.screen.words entries short
    ++ (13 when bank_differs s.screen.words s.pending ∷ 15 when past_frame s ∷ [])

-- what a viewport change judges after 1 to 8: 9, 13, 15 (§9.3)
abbrev pub change_tail : State → Viewport → List Case
change_tail s v =
    9 when video_off s.screen.words
    ∷ 13 when (bank_differs s.screen.words v || bank_differs s.screen.words s.pending)
    ∷ 15 when past_frame s
    ∷ []

-- what a start judges after 1 to 8: 9 (§9.3)
abbrev pub start_tail : Words → List Case
start_tail w = 9 when video_off w ∷ []

-- the number that a step or a run gives, 0 where it is accepted (§9.2)
unfoldable pub judge_scan : State → ℕ → ℕ → Bool → ℕ
judge_scan s lent entries short = lowest (state_cases s lent ++ scan_tail s entries short)

-- that of a viewport change
unfoldable pub judge_change : State → ℕ → Viewport → ℕ
judge_change s lent v = lowest ((state_cases s lent ++ viewport_cases s v lent) ++ change_tail s v)

-- that of a start that has its nine words
unfoldable pub judge_start : Screen → ℕ → ℕ
judge_start s lent = lowest (memory_cases s lent ++ start_tail s.words)
