-- One pixel for C (§5.6, §10.1): its colour goes to a lent slice. Promises cite it, so a reader must believe it.
use Rattle.std.specs.Prelude.{List, ℕ, length, set}
use Rattle.laws.specs.Answers.{Outcome, outcome, outcome_on}
use Rattle.registers.specs.Loading.{load, too_short}
use Rattle.memory.specs.Memory.{screen}
use Rattle.memory.specs.declared.Screen.{Screen}
use Rattle.drawing.specs.Colour.{Lent, colour}
use Rattle.drawing.specs.Drawing.{judge_pixel}

-- the pixel's colour goes to the first entry, the others stay; 10 where the slice has no entry
unfoldable pub draw_pixel_in : Screen → Lent → ℕ → ℕ → List ℕ → Outcome
draw_pixel_in s l r c out =
    outcome (judge_pixel s (length l.memory) (length l.palette) (too_short (length out) 1) r c) out
    (set out 0 (colour s l r c))

-- the words come as a slice: fewer than nine give 10 before every other number (§9.3)
unfoldable pub draw_pixel : List ℕ → ℕ → Lent → ℕ → ℕ → List ℕ → Outcome
draw_pixel words window-start l r c out = outcome_on (load words) out (λ w. draw_pixel_in (screen w window-start) l r c out)
