-- The panel's sizes (§2.1 to §2.3, §6.1 to §6.3, §6.8) into a lent slice (§10.3): on TFT each part is a field + 1. Promises cite it, so
-- a reader must believe it.
use Rattle.std.specs.Prelude.{cond, List, [], ◌∷◌, ◌++◌, ℕ, ◌+◌, ◌*◌}
use Rattle.laws.specs.Answers.{judged, Outcome, outcome_on}
use Rattle.laws.specs.Cases.{◌when◌, lowest}
use Rattle.panel.specs.Geometry.{width, height, stored_bits, stn_width, stn_bits}
use Rattle.panel.specs.Timing.{timing, line_clocks, frame_lines}
use Rattle.registers.specs.Fields.{clkval, bppmode, hozval, hspw, hbpd, hfpd, vspw, vbpd, vfpd, stn, reserved_bit}
use Rattle.registers.specs.Loading.{load, put_entries}
use Rattle.registers.specs.declared.Words.{Words}

-- W, H (§2.1), the stored bits of a pixel (§2.2), the HCLK ticks of a clock (§6.3)
abbrev pub picture_sizes : Words → List ℕ
picture_sizes w = width w ∷ height w ∷ stored_bits (bppmode w) ∷ 2 * (clkval w + 1) ∷ []

-- in clocks: sync, back porch, front porch, and the line length C (§6.1)
abbrev pub line_sizes : Words → List ℕ
line_sizes w = (hspw w + 1) ∷ (hbpd w + 1) ∷ (hfpd w + 1) ∷ line_clocks (timing w) ∷ []

-- in lines: sync, back porch, front porch, and the frame height L (§6.2)
abbrev pub frame_sizes : Words → List ℕ
frame_sizes w = (vspw w + 1) ∷ (vbpd w + 1) ∷ (vfpd w + 1) ∷ frame_lines (timing w) ∷ []

abbrev pub tft_sizes : Words → List ℕ
tft_sizes w = picture_sizes w ++ line_sizes w ++ frame_sizes w

-- on STN: a line has no clocks but its HOZVAL + 1 active ones, a frame no lines but its H
abbrev pub stn_sizes : Words → List ℕ
stn_sizes w =
    (stn_width w ∷ height w ∷ stn_bits (bppmode w) ∷ 2 * clkval w ∷ [])
    ++ (0 ∷ 0 ∷ 0 ∷ (hozval w + 1) ∷ [])
    ++ (0 ∷ 0 ∷ 0 ∷ height w ∷ [])

-- by the panel that PNRMODE selects
unfoldable pub sizes : Words → List ℕ
sizes w = cond (stn w) (stn_sizes w) (tft_sizes w)

-- 1, as for reading fields, then 10 (§9.3): fewer than 12 entries for the sizes
unfoldable pub read_sizes_of : Words → List ℕ → Outcome
read_sizes_of w out = outcome_on (judged (lowest (1 when reserved_bit w ∷ [])) (sizes w)) out (λ s. put_entries s out)

-- of the words in a slice: 10 first where it has fewer than nine entries (§9.2)
unfoldable pub read_sizes : List ℕ → List ℕ → Outcome
read_sizes words out = outcome_on (load words) out (λ w. read_sizes_of w out)
