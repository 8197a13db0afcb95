-- A row, the picture and an STN panel's frame for C (§5.6, §5.10, §10.1): the words come as a slice, and where it has fewer than nine,
-- 10 comes before every other number (§9.3). A call gives 0 when done. Promises cite it, so a reader must believe it.
use Rattle.std.specs.Prelude.{List, ℕ}
use Rattle.laws.specs.Answers.{Outcome, outcome_on}
use Rattle.registers.specs.Loading.{load}
use Rattle.memory.specs.Memory.{screen}
use Rattle.drawing.specs.Colour.{Lent}
use Rattle.drawing.specs.Drawing as Drawing
use Rattle.stn.specs.Drawing as Stn

-- row r to the first W entries (§5.6)
unfoldable pub draw_row : List ℕ → ℕ → Lent → ℕ → List ℕ → Outcome
draw_row words window-start l r row =
    outcome_on (load words) row (λ w. Drawing.draw_row (screen w window-start) l r row)

-- the picture to the first W × H entries (§5.6)
unfoldable pub draw_picture : List ℕ → ℕ → Lent → List ℕ → Outcome
draw_picture words window-start l picture =
    outcome_on (load words) picture (λ w. Drawing.draw_picture (screen w window-start) l picture)

-- frame f of an STN panel to the first W × H / 8 bytes (§5.10)
unfoldable pub draw_stn : List ℕ → ℕ → List ℕ → ℕ → List ℕ → Outcome
draw_stn words window-start memory f out =
    outcome_on (load words) out (λ w. Stn.draw_stn (screen w window-start) memory f out)
