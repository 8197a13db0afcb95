-- Refusals 2 to 7, 9, 17 and 27 (§9.1; the rules of 3 to 7 are in §2.2, §2.3, §4.4, §3.4 and §3.5), and the judgement by 1 to 7 (§9.2),
-- for the kind of panel that a call takes (§9.3): TFT, STN, or either. 9, 17 and 27 are judged by themselves. Promises cite it, so a
-- reader must believe it.
use Rattle.std.specs.Prelude.{Bool, not, cond, ◌&&◌, ◌||◌, List, [], ◌∷◌, ℕ, ◌+◌, ◌-◌, ◌*◌, ◌%◌, ◌^◌, eqb, ltb}
use Rattle.laws.specs.Answers.{Answer, judged, and_then}
use Rattle.laws.specs.Cases.{Case, ◌when◌, lowest}
use Rattle.registers.specs.Fields.{envid, clkval, pnrmode, bppmode, bswp, hwswp, lcdbaseu, lcdbasel, pagewidth, offsize, stn, reserved_bit}
use Rattle.registers.specs.Loading.{load}
use Rattle.registers.specs.declared.Words.{Words}
use Rattle.panel.specs.Geometry.{height, outside_modes, outside_stn_modes, panel_width, panel_bits, row_offset}

-- 2 (§9.1) in a call that takes TFT panels: PNRMODE does not select TFT
unfoldable pub not_tft : Words → Bool
not_tft w = not (eqb (pnrmode w) 3)

-- in a call that takes STN panels
unfoldable pub not_stn : Words → Bool
not_stn w = not (stn w)

-- in a call that takes either
unfoldable pub neither_panel : Words → Bool
neither_panel w = not_tft w && not_stn w

-- 3: BPPMODE is none of 8 to 13 (§2.2), on STN neither 0 nor 2 (§2.3)
unfoldable pub no_such_mode : Words → Bool
no_such_mode w = cond (stn w) (outside_stn_modes (bppmode w)) (outside_modes (bppmode w))

abbrev pub up_to_byte : ℕ → Bool
up_to_byte bits = eqb bits 1 || eqb bits 2 || eqb bits 4 || eqb bits 8

-- 4 (§4.4): BSWP above 8 bits, HWSWP at other than 16, or both
unfoldable pub swaps_illegal : Words → Bool
swaps_illegal w =
    (eqb (bswp w) 1 && not (up_to_byte (panel_bits w)))
    || (eqb (hwswp w) 1 && not (eqb (panel_bits w) 16))
    || (eqb (bswp w) 1 && eqb (hwswp w) 1)

abbrev odd : ℕ → Bool
odd n = eqb (n % 2) 1

-- 5 (§3.4): PAGEWIDTH half-words are not W pixels of S bits, or one of LCDBASEU, PAGEWIDTH and OFFSIZE is odd
unfoldable pub row_size_wrong : Words → Bool
row_size_wrong w =
    not (eqb (16 * pagewidth w) (panel_width w * panel_bits w)) || odd (lcdbaseu w) || odd (pagewidth w) || odd (offsize w)

-- 6 (§3.5): LCDBASEL is not where a row after the last would start, modulo 2^21
unfoldable pub end_differs : Words → Bool
end_differs w = not (eqb (lcdbasel w) (row_offset w (height w) % 2 ^ 21))

-- 7 (§3.5): the last row ends past the bank's 2^21 half-words
unfoldable pub past_bank : Words → Bool
past_bank w = ltb (2 ^ 21) (row_offset w (height w - 1) + pagewidth w)

-- the conditions on the words alone (§9.1), for a call that does not take the panel where `other` holds
abbrev pub word_cases_where : Bool → Words → List Case
word_cases_where other w =
    1 when reserved_bit w
    ∷ 2 when other
    ∷ 3 when no_such_mode w
    ∷ 4 when swaps_illegal w
    ∷ 5 when row_size_wrong w
    ∷ 6 when end_differs w
    ∷ 7 when past_bank w
    ∷ []

-- the lowest of 1 to 7 that holds, 0 where none does (§9.2)
unfoldable pub judge_where : Bool → Words → ℕ
judge_where other w = lowest (word_cases_where other w)

-- for a call that takes TFT panels
abbrev pub word_cases : Words → List Case
word_cases w = word_cases_where (not_tft w) w

unfoldable pub judge : Words → ℕ
judge w = lowest (word_cases w)

-- for a call that takes either
abbrev pub either_cases : Words → List Case
either_cases w = word_cases_where (neither_panel w) w

unfoldable pub judge_either : Words → ℕ
judge_either w = lowest (either_cases w)

-- for a call that takes STN panels
abbrev pub stn_cases : Words → List Case
stn_cases w = word_cases_where (not_stn w) w

unfoldable pub judge_stn : Words → ℕ
judge_stn w = lowest (stn_cases w)

-- the words in a slice, of either panel: 10 first where it has fewer than nine entries, then 1 to 7 (§9.2)
unfoldable pub accept : List ℕ → Answer Words
accept s = and_then (load s) (λ w. judged (judge_either w) w)

-- 17 (§9.1, §6.8): an STN panel's clock needs a CLKVAL of 2 at least
unfoldable pub clock_too_fast : Words → Bool
clock_too_fast w = stn w && ltb (clkval w) 2

-- 27 (§9.1, §6.8): there are rule editions 1 and 2
unfoldable pub no_such_edition : ℕ → Bool
no_such_edition edition = not (eqb edition 1 || eqb edition 2)

-- for a call that gives a frame's length or rate, after all else: 17, then 27, which is asked of TFT words too (§9.3)
abbrev pub timed_cases : Words → ℕ → List Case
timed_cases w edition = 17 when clock_too_fast w ∷ 27 when no_such_edition edition ∷ []

unfoldable pub judge_timed : Words → ℕ → ℕ
judge_timed w edition = lowest (timed_cases w edition)

-- 9 (§9.1): video is off; only calls that show the screen are judged by it (§9.3)
unfoldable pub video_off : Words → Bool
video_off w = eqb (envid w) 0
