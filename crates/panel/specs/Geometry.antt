-- The panel's size (§2.1), the stored bits of a pixel (§2.2), both on STN (§2.3), and where a row starts in the bank (§3.2). `width` and
-- `stored_bits` are a TFT panel's. Promises cite it, so a reader must believe it.
use Rattle.std.specs.Prelude.{Bool, not, cond, ◌&&◌, [], ◌∷◌, ℕ, ◌+◌, ◌-◌, ◌*◌, leb, eqb, get_or}
use Rattle.laws.specs.Answers.{Answer, judged}
use Rattle.laws.specs.Cases.{◌when◌, lowest}
use Rattle.registers.specs.Fields.{hozval, lineval, bppmode, lcdbaseu, pagewidth, offsize, stn}
use Rattle.registers.specs.declared.Words.{Words}

-- W pixels in a row, H rows (§2.1)
abbrev pub width : Words → ℕ
width w = hozval w + 1

abbrev pub height : Words → ℕ
height w = lineval w + 1

-- a BPPMODE that is no TFT mode: those are 8 to 13 (§2.2)
unfoldable pub outside_modes : ℕ → Bool
outside_modes mode = not (leb 8 mode && leb mode 13)

-- S, the stored bits of a pixel, by BPPMODE; 0 where that is no TFT mode (§2.2)
unfoldable pub stored_bits : ℕ → ℕ
stored_bits mode = cond (outside_modes mode) 0 (get_or (1 ∷ 2 ∷ 4 ∷ 8 ∷ 16 ∷ 32 ∷ []) (mode - 8) 0)

-- the stored bits that a BPPMODE selects, or 3 (§2.2)
unfoldable pub depth_of : ℕ → Answer ℕ
depth_of mode = judged (lowest (3 when outside_modes mode ∷ [])) (stored_bits mode)

-- ---- on STN (§2.3)

-- W: eight pixels for each of HOZVAL + 1 clocks
abbrev pub stn_width : Words → ℕ
stn_width w = 8 * (hozval w + 1)

-- a BPPMODE that is no STN mode: those are 0, mono, and 2, 16 greys
unfoldable pub outside_stn_modes : ℕ → Bool
outside_stn_modes mode = not (eqb mode 0) && not (eqb mode 2)

-- S by BPPMODE; 0 where that is no STN mode
unfoldable pub stn_bits : ℕ → ℕ
stn_bits mode = cond (eqb mode 0) 1 (cond (eqb mode 2) 4 0)

-- ---- by the panel that PNRMODE selects

unfoldable pub panel_width : Words → ℕ
panel_width w = cond (stn w) (stn_width w) (width w)

unfoldable pub panel_bits : Words → ℕ
panel_bits w = cond (stn w) (stn_bits (bppmode w)) (stored_bits (bppmode w))

-- ---- rows

-- half-words from row to row (§3.2)
abbrev pub pitch : Words → ℕ
pitch w = pagewidth w + offsize w

-- half-words from the bank's start to row r (§3.2)
unfoldable pub row_offset : Words → ℕ → ℕ
row_offset w r = lcdbaseu w + r * pitch w
