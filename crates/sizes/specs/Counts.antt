-- A frame's counts, of either panel, into a lent slice (§10.3), and the order of the refusals (§9.3). Promises cite it, so a reader must
-- believe it.
use Rattle.std.specs.Prelude.{List, [], ◌∷◌, ℕ, length, get_or}
use Rattle.laws.specs.Answers.{Outcome, outcome, outcome_on}
use Rattle.laws.specs.Cases.{◌when◌, lowest}
use Rattle.laws.specs.Storing.{stores}
use Rattle.panel.specs.Counts.{panel_clocks, panel_ticks, panel_millihertz}
use Rattle.panel.specs.Refusals.{accept, timed_cases}
use Rattle.registers.specs.Loading.{too_short}
use Rattle.registers.specs.declared.Words.{Words}

-- clocks, HCLK ticks (§6.3, §6.8) and millihertz (§6.4), in this order
abbrev pub numbers : Words → ℕ → ℕ → List ℕ
numbers w edition hclk = panel_clocks w ∷ panel_ticks w edition ∷ panel_millihertz w edition hclk ∷ []

-- 10 (§9.3): fewer than three entries for the counts; then 17 and 27
unfoldable pub put_counts : Words → ℕ → ℕ → List ℕ → Outcome
put_counts w edition hclk out =
    outcome (lowest (10 when too_short (length out) 3 ∷ timed_cases w edition)) out
    (stores (λ i. get_or (numbers w edition hclk) i 0) 0 3 out)

-- of the words in a slice: 10 first where it has fewer than nine entries, then 1 to 7, then those above (§9.3)
unfoldable pub read_counts : List ℕ → ℕ → ℕ → List ℕ → Outcome
read_counts words edition hclk out = outcome_on (accept words) out (λ w. put_counts w edition hclk out)
