-- Worked cases (§13.1), tried on the definitions: T1's counts, T8, T11, the extremes of ticks and rate (§6.3, §6.4, §6.8), both rule
-- editions, the rate that a rounded pixel clock would miss (§13.2), both sides of each of 1 to 7 (§9.1), on TFT and on STN, and 17 and 27.
-- Their numbers are worked out by hand.
use mathlib.Core.Bool.{Bool, true, false, ◌&&◌}
use mathlib.Core.List.{List, [], ◌∷◌}
use mathlib.Core.Path.{◌≡◌, refl, ap, ap₂, ◌∙◌}
use Prim.Native.Nat.{ℕ, ◌*◌}
use native.Mathlib.Omega.{arith}
use borrow.Author.Tests.{ne_eqb, eqb-true, not-false}
use lib.Dec.{T, eqb}
use Rattle.laws.specs.Answers.{accepted, refused, judged, and_then, mapped}
use Rattle.laws.specs.Cases.{lowest, lower}
use Rattle.laws.specs.CaseLaws.{first}
use Rattle.laws.proofs.CaseLaws.{lowest-of-ascending-is-first}
use Rattle.registers.specs.Fields.{pnrmode, bppmode, pagewidth, stn, reserved_bit}
use Rattle.registers.specs.Loading.{load, too_short, short_of_nine, nine_words}
use Rattle.registers.specs.declared.Words.{Words}
use Rattle.panel.specs.Counts.{accept_timed, timed_words, counts, rate, frame_ticks, edition_pulse}
use Rattle.panel.specs.Counts.{stn_line_ticks, stn_frame_clocks, stn_frame_ticks, panel_clocks, panel_ticks}
use Rattle.panel.specs.Geometry.{width, stored_bits, outside_modes, stn_bits, outside_stn_modes, panel_width, panel_bits, row_offset}
use Rattle.panel.specs.Refusals.{not_tft, not_stn, neither_panel, no_such_mode, swaps_illegal, row_size_wrong, end_differs, past_bank}
use Rattle.panel.specs.Refusals.{judge, judge_stn, judge_either, word_cases, clock_too_fast, no_such_edition, judge_timed, accept}
use Rattle.panel.specs.Timing.{line_clocks, frame_lines, frame_clocks}
use Rattle.panel.proofs.Accepted.{accepted-words, tft-not-stn, row-bits}

-- ---- counts and rates

pub record Example : Type 0 where
  pub words : List ℕ
  pub edition : ℕ
  pub hclk : ℕ
  pub clocks : ℕ
  pub ticks : ℕ
  pub millihertz : ℕ

abbrev row : List ℕ → ℕ → ℕ → ℕ → ℕ → ℕ → Example
row words edition hclk clocks ticks millihertz =
    record { words = words; edition = edition; hclk = hclk; clocks = clocks; ticks = ticks; millihertz = millihertz }

abbrev pub examples : List Example
examples =
    -- T1, a panel of 1 by 2
    row (0x7B ∷ 0x4000 ∷ 0 ∷ 0 ∷ 0 ∷ 0x18000000 ∷ 4 ∷ 2 ∷ 0 ∷ []) 1 1000 20 40 25000
    -- by rule edition 2: on TFT the same
    ∷ row (0x7B ∷ 0x4000 ∷ 0 ∷ 0 ∷ 0 ∷ 0x18000000 ∷ 4 ∷ 2 ∷ 0 ∷ []) 2 1000 20 40 25000
    -- T8, a panel of 240 by 320, by T9's words
    ∷ row (0x479 ∷ 0x014FC041 ∷ 0x0098EF09 ∷ 0x9 ∷ 0xB09 ∷ 0x18000000 ∷ 0x12C00 ∷ 0xF0 ∷ 0 ∷ []) 1 100000000 91280 912800 109553
    -- the most ticks: 2048 by 1024, every porch, sync and CLKVAL at its largest
    ∷ row (0x3FF77 ∷ 0xFFFFFFFF ∷ 0x03FFFFFF ∷ 0xFF ∷ 0 ∷ 0x18000000 ∷ 0x100000 ∷ 0x400 ∷ 0 ∷ []) 1 4294967295 4300800 8808038400 487
    -- the highest rate: one pixel, every part 1
    ∷ row (0x7B ∷ 0 ∷ 0 ∷ 0 ∷ 0 ∷ 0x18000000 ∷ 2 ∷ 2 ∷ 0 ∷ []) 1 4294967295 16 32 134217727968
    -- HCLK 0
    ∷ row (0x7B ∷ 0 ∷ 0 ∷ 0 ∷ 0 ∷ 0x18000000 ∷ 2 ∷ 2 ∷ 0 ∷ []) 1 0 16 32 0
    -- CLKVAL 1023 at 60 MHz: a pixel clock of 30.0 kHz would give 1875000, one of 29296 Hz 1831000
    ∷ row (0x3FF7B ∷ 0 ∷ 0 ∷ 0 ∷ 0 ∷ 0x18000000 ∷ 2 ∷ 2 ∷ 0 ∷ []) 1 60000000 16 32768 1831054
    -- STN, 320 by 240 in 16 greys: CLKVAL 8, WLH 2, WDLY 1, LINEBLANK 10; 816 ticks a line
    ∷ row (0x845 ∷ 0x3BC000 ∷ 0x8270A ∷ 0xD02 ∷ 0 ∷ 0x18000000 ∷ 0x4B00 ∷ 0x50 ∷ 0 ∷ []) 1 60000000 9600 195840 306372
    -- by rule edition 2: 800 ticks a line, since WLH 2 gives 48 ticks and not 64
    ∷ row (0x845 ∷ 0x3BC000 ∷ 0x8270A ∷ 0xD02 ∷ 0 ∷ 0x18000000 ∷ 0x4B00 ∷ 0x50 ∷ 0 ∷ []) 2 60000000 9600 192000 312500
    -- STN, the most ticks: mono, 16384 by 1024, every field at its largest
    ∷ row (0x3FF41 ∷ 0xFFFFFFFF ∷ 0x1FFFFF ∷ 0xFF03 ∷ 0 ∷ 0x18000000 ∷ 0x100000 ∷ 0x400 ∷ 0 ∷ []) 1 4294967295 2097152 4293124096 1000
    -- by rule edition 2: 128 ticks a line fewer
    ∷ row (0x3FF41 ∷ 0xFFFFFFFF ∷ 0x1FFFFF ∷ 0xFF03 ∷ 0 ∷ 0x18000000 ∷ 0x100000 ∷ 0x400 ∷ 0 ∷ []) 2 4294967295 2097152 4292993024 1000
    -- STN, the highest rate: eight pixels, CLKVAL 2
    ∷ row (0x245 ∷ 0 ∷ 0 ∷ 0 ∷ 0 ∷ 0x18000000 ∷ 2 ∷ 2 ∷ 0 ∷ []) 1 4294967295 1 36 119304647083
    ∷ []

abbrev pub AllHold : List Example → Type 0
AllHold [] = Unit
AllHold (x ∷ xs) =
    (counts x.words x.edition ≡ accepted (record { clocks = x.clocks; ticks = x.ticks }))
    × (rate x.words x.edition x.hclk ≡ accepted x.millihertz)
    × AllHold xs

pub examples-hold : AllHold examples
unfolding counts rate mapped accept_timed timed_words accept and_then load too_short short_of_nine judged judge_either judge_timed lowest lower reserved_bit stn neither_panel not_tft not_stn no_such_mode outside_modes outside_stn_modes swaps_illegal stored_bits stn_bits panel_bits panel_width row_size_wrong end_differs past_bank clock_too_fast no_such_edition row_offset line_clocks frame_lines frame_clocks frame_ticks edition_pulse stn_line_ticks stn_frame_clocks stn_frame_ticks panel_clocks panel_ticks
examples-hold = (refl, refl, (refl, refl, (refl, refl, (refl, refl, (refl, refl, (refl, refl, (refl, refl, (refl, refl, (refl, refl, (refl, refl, (refl, refl, (refl, refl, tt))))))))))))

-- ---- refusals of a length

pub record Refusal : Type 0 where
  pub words : List ℕ
  pub edition : ℕ
  pub number : ℕ

abbrev refusal : List ℕ → ℕ → ℕ → Refusal
refusal words edition number = record { words = words; edition = edition; number = number }

abbrev pub refusals : List Refusal
refusals =
    -- 27 on TFT, T1's words: either side of the two editions, and the largest number
    refusal (0x7B ∷ 0x4000 ∷ 0 ∷ 0 ∷ 0 ∷ 0x18000000 ∷ 4 ∷ 2 ∷ 0 ∷ []) 0 27
    ∷ refusal (0x7B ∷ 0x4000 ∷ 0 ∷ 0 ∷ 0 ∷ 0x18000000 ∷ 4 ∷ 2 ∷ 0 ∷ []) 3 27
    ∷ refusal (0x7B ∷ 0x4000 ∷ 0 ∷ 0 ∷ 0 ∷ 0x18000000 ∷ 4 ∷ 2 ∷ 0 ∷ []) 4294967295 27
    -- on STN, CLKVAL 2
    ∷ refusal (0x245 ∷ 0 ∷ 0 ∷ 0 ∷ 0 ∷ 0x18000000 ∷ 2 ∷ 2 ∷ 0 ∷ []) 0 27
    -- 17 on STN, CLKVAL 1, by either edition, and before 27
    ∷ refusal (0x145 ∷ 0 ∷ 0 ∷ 0 ∷ 0 ∷ 0x18000000 ∷ 2 ∷ 2 ∷ 0 ∷ []) 1 17
    ∷ refusal (0x145 ∷ 0 ∷ 0 ∷ 0 ∷ 0 ∷ 0x18000000 ∷ 2 ∷ 2 ∷ 0 ∷ []) 2 17
    ∷ refusal (0x145 ∷ 0 ∷ 0 ∷ 0 ∷ 0 ∷ 0x18000000 ∷ 2 ∷ 2 ∷ 0 ∷ []) 3 17
    -- 6, and 10 for eight words, before 27
    ∷ refusal (0x245 ∷ 0 ∷ 0 ∷ 0 ∷ 0 ∷ 0x18000000 ∷ 4 ∷ 2 ∷ 0 ∷ []) 0 6
    ∷ refusal (0x245 ∷ 0 ∷ 0 ∷ 0 ∷ 0 ∷ 0x18000000 ∷ 2 ∷ 2 ∷ []) 0 10
    ∷ []

abbrev pub AllRefused : List Refusal → Type 0
AllRefused [] = Unit
AllRefused (x ∷ xs) = (counts x.words x.edition ≡ refused x.number) × AllRefused xs

pub refusals-hold : AllRefused refusals
unfolding counts mapped accept_timed timed_words accept and_then load too_short short_of_nine judged judge_either judge_timed lowest lower reserved_bit stn neither_panel not_tft not_stn no_such_mode outside_modes outside_stn_modes swaps_illegal stored_bits stn_bits panel_bits panel_width row_size_wrong end_differs past_bank clock_too_fast no_such_edition row_offset
refusals-hold = (refl, (refl, (refl, (refl, (refl, (refl, (refl, (refl, (refl, tt)))))))))

-- ---- refusals

pub record Verdict : Type 0 where
  pub words : List ℕ
  pub number : ℕ

infix 70 ◌gives◌
abbrev ◌gives◌ : List ℕ → ℕ → Verdict
words gives n = record { words = words; number = n }

-- each is the 240 by 320 panel at 16 bits (the first), changed where it says
abbrev pub verdicts : List Verdict
verdicts =
    (0x479 ∷ 0x014FC041 ∷ 0x0098EF09 ∷ 0x9 ∷ 0xB09 ∷ 0x18000000 ∷ 0x12C00 ∷ 0xF0 ∷ 0 ∷ []) gives 0
    -- 1: the lowest reserved bit of LCDCON1, of LCDCON5 and of TPAL; read-only bits, all set, give no refusal
    ∷ (0x10000479 ∷ 0x014FC041 ∷ 0x0098EF09 ∷ 0x9 ∷ 0xB09 ∷ 0x18000000 ∷ 0x12C00 ∷ 0xF0 ∷ 0 ∷ []) gives 1
    ∷ (0x479 ∷ 0x014FC041 ∷ 0x0098EF09 ∷ 0x9 ∷ 0x20B09 ∷ 0x18000000 ∷ 0x12C00 ∷ 0xF0 ∷ 0 ∷ []) gives 1
    ∷ (0x479 ∷ 0x014FC041 ∷ 0x0098EF09 ∷ 0x9 ∷ 0xB09 ∷ 0x18000000 ∷ 0x12C00 ∷ 0xF0 ∷ 0x2000000 ∷ []) gives 1
    ∷ (0x0FFC0479 ∷ 0x014FC041 ∷ 0x0098EF09 ∷ 0x9 ∷ 0x1EB09 ∷ 0x18000000 ∷ 0x12C00 ∷ 0xF0 ∷ 0 ∷ []) gives 0
    -- 2: PNRMODE 1, and before 3; PNRMODE 2 where no bit is set that is reserved on STN
    ∷ (0x439 ∷ 0x014FC041 ∷ 0x0098EF09 ∷ 0x9 ∷ 0xB09 ∷ 0x18000000 ∷ 0x12C00 ∷ 0xF0 ∷ 0 ∷ []) gives 2
    ∷ (0x42F ∷ 0x014FC041 ∷ 0x0098EF09 ∷ 0x9 ∷ 0xB09 ∷ 0x18000000 ∷ 0x12C00 ∷ 0xF0 ∷ 0 ∷ []) gives 2
    ∷ (0x459 ∷ 0x014FC041 ∷ 0x0098EF09 ∷ 0x9 ∷ 0xB09 ∷ 0x18000000 ∷ 0x12C00 ∷ 0xF0 ∷ 0 ∷ []) gives 1
    ∷ (0x459 ∷ 0x014FC041 ∷ 0x0018EF09 ∷ 0x3 ∷ 0xB09 ∷ 0x18000000 ∷ 0x12C00 ∷ 0xF0 ∷ 0 ∷ []) gives 2
    -- 3: BPPMODE 7 and 14
    ∷ (0x46F ∷ 0x014FC041 ∷ 0x0098EF09 ∷ 0x9 ∷ 0xB09 ∷ 0x18000000 ∷ 0x12C00 ∷ 0xF0 ∷ 0 ∷ []) gives 3
    ∷ (0x47D ∷ 0x014FC041 ∷ 0x0098EF09 ∷ 0x9 ∷ 0xB09 ∷ 0x18000000 ∷ 0x12C00 ∷ 0xF0 ∷ 0 ∷ []) gives 3
    -- 4: BSWP at 16 bits, both at 16, HWSWP at 8 and at 24; BSWP at 8 is legal
    ∷ (0x479 ∷ 0x014FC041 ∷ 0x0098EF09 ∷ 0x9 ∷ 0xB0A ∷ 0x18000000 ∷ 0x12C00 ∷ 0xF0 ∷ 0 ∷ []) gives 4
    ∷ (0x479 ∷ 0x014FC041 ∷ 0x0098EF09 ∷ 0x9 ∷ 0xB0B ∷ 0x18000000 ∷ 0x12C00 ∷ 0xF0 ∷ 0 ∷ []) gives 4
    ∷ (0x477 ∷ 0x014FC041 ∷ 0x0098EF09 ∷ 0x9 ∷ 0xB09 ∷ 0x18000000 ∷ 0x9600 ∷ 0x78 ∷ 0 ∷ []) gives 4
    ∷ (0x47B ∷ 0x014FC041 ∷ 0x0098EF09 ∷ 0x9 ∷ 0xB09 ∷ 0x18000000 ∷ 0x25800 ∷ 0x1E0 ∷ 0 ∷ []) gives 4
    ∷ (0x477 ∷ 0x014FC041 ∷ 0x0098EF09 ∷ 0x9 ∷ 0xB0A ∷ 0x18000000 ∷ 0x9600 ∷ 0x78 ∷ 0 ∷ []) gives 0
    -- 5: another PAGEWIDTH, an odd OFFSIZE, an odd LCDBASEU
    ∷ (0x479 ∷ 0x014FC041 ∷ 0x0098EF09 ∷ 0x9 ∷ 0xB09 ∷ 0x18000000 ∷ 0x13100 ∷ 0xF2 ∷ 0 ∷ []) gives 5
    ∷ (0x479 ∷ 0x014FC041 ∷ 0x0098EF09 ∷ 0x9 ∷ 0xB09 ∷ 0x18000000 ∷ 0x12D40 ∷ 0x8F0 ∷ 0 ∷ []) gives 5
    ∷ (0x479 ∷ 0x014FC041 ∷ 0x0098EF09 ∷ 0x9 ∷ 0xB09 ∷ 0x18000001 ∷ 0x12C01 ∷ 0xF0 ∷ 0 ∷ []) gives 5
    -- 6: LCDBASEL one word further
    ∷ (0x479 ∷ 0x014FC041 ∷ 0x0098EF09 ∷ 0x9 ∷ 0xB09 ∷ 0x18000000 ∷ 0x12C02 ∷ 0xF0 ∷ 0 ∷ []) gives 6
    -- 7: an end of exactly 2^21 is accepted, a word further is not, and there 6 comes first
    ∷ (0x479 ∷ 0x014FC041 ∷ 0x0098EF09 ∷ 0x9 ∷ 0xB09 ∷ 0x181ED400 ∷ 0 ∷ 0xF0 ∷ 0 ∷ []) gives 0
    ∷ (0x479 ∷ 0x014FC041 ∷ 0x0098EF09 ∷ 0x9 ∷ 0xB09 ∷ 0x181ED402 ∷ 2 ∷ 0xF0 ∷ 0 ∷ []) gives 7
    ∷ (0x479 ∷ 0x014FC041 ∷ 0x0098EF09 ∷ 0x9 ∷ 0xB09 ∷ 0x181ED402 ∷ 0 ∷ 0xF0 ∷ 0 ∷ []) gives 6
    -- a virtual screen of OFFSIZE 16 that ends the bank: the last row's OFFSIZE lies past it
    ∷ (0x479 ∷ 0x014FC041 ∷ 0x0098EF09 ∷ 0x9 ∷ 0xB09 ∷ 0x181EC010 ∷ 0x10 ∷ 0x80F0 ∷ 0 ∷ []) gives 0
    ∷ []

-- each is the STN panel of 320 by 240 in 16 greys (the first), changed where it says, for a call that takes STN panels
abbrev pub stn_verdicts : List Verdict
stn_verdicts =
    (0x845 ∷ 0x3BC000 ∷ 0x8270A ∷ 0xD02 ∷ 0 ∷ 0x18000000 ∷ 0x4B00 ∷ 0x50 ∷ 0 ∷ []) gives 0
    -- mono: rows of 40 bytes; every field that an STN panel has none of, and MVAL
    ∷ (0x841 ∷ 0x3BC000 ∷ 0x8270A ∷ 0xD02 ∷ 0 ∷ 0x18000000 ∷ 0x12C0 ∷ 0x14 ∷ 0 ∷ []) gives 0
    ∷ (0x845 ∷ 0xFF3BFFFF ∷ 0x8270A ∷ 0xFF02 ∷ 0x1FF0 ∷ 0x18000000 ∷ 0x4B00 ∷ 0x50 ∷ 0 ∷ []) gives 0
    -- 1: the lowest bit above WDLY, above WLH, and of TPAL
    ∷ (0x845 ∷ 0x3BC000 ∷ 0x28270A ∷ 0xD02 ∷ 0 ∷ 0x18000000 ∷ 0x4B00 ∷ 0x50 ∷ 0 ∷ []) gives 1
    ∷ (0x845 ∷ 0x3BC000 ∷ 0x8270A ∷ 0xD06 ∷ 0 ∷ 0x18000000 ∷ 0x4B00 ∷ 0x50 ∷ 0 ∷ []) gives 1
    ∷ (0x845 ∷ 0x3BC000 ∷ 0x8270A ∷ 0xD02 ∷ 0 ∷ 0x18000000 ∷ 0x4B00 ∷ 0x50 ∷ 1 ∷ []) gives 1
    -- 2: TFT, and 4-bit STN
    ∷ (0x865 ∷ 0x3BC000 ∷ 0x8270A ∷ 0xD02 ∷ 0 ∷ 0x18000000 ∷ 0x4B00 ∷ 0x50 ∷ 0 ∷ []) gives 2
    ∷ (0x825 ∷ 0x3BC000 ∷ 0x8270A ∷ 0xD02 ∷ 0 ∷ 0x18000000 ∷ 0x4B00 ∷ 0x50 ∷ 0 ∷ []) gives 2
    -- 3: BPPMODE 1, and 10, which TFT has
    ∷ (0x843 ∷ 0x3BC000 ∷ 0x8270A ∷ 0xD02 ∷ 0 ∷ 0x18000000 ∷ 0x4B00 ∷ 0x50 ∷ 0 ∷ []) gives 3
    ∷ (0x855 ∷ 0x3BC000 ∷ 0x8270A ∷ 0xD02 ∷ 0 ∷ 0x18000000 ∷ 0x4B00 ∷ 0x50 ∷ 0 ∷ []) gives 3
    -- 4: HWSWP; BSWP is legal
    ∷ (0x845 ∷ 0x3BC000 ∷ 0x8270A ∷ 0xD02 ∷ 1 ∷ 0x18000000 ∷ 0x4B00 ∷ 0x50 ∷ 0 ∷ []) gives 4
    ∷ (0x845 ∷ 0x3BC000 ∷ 0x8270A ∷ 0xD02 ∷ 2 ∷ 0x18000000 ∷ 0x4B00 ∷ 0x50 ∷ 0 ∷ []) gives 0
    -- 5: PAGEWIDTH for 40 pixels, as if W had no 8
    ∷ (0x845 ∷ 0x3BC000 ∷ 0x8270A ∷ 0xD02 ∷ 0 ∷ 0x18000000 ∷ 0x960 ∷ 0xA ∷ 0 ∷ []) gives 5
    -- 6: LCDBASEL one word further
    ∷ (0x845 ∷ 0x3BC000 ∷ 0x8270A ∷ 0xD02 ∷ 0 ∷ 0x18000000 ∷ 0x4B02 ∷ 0x50 ∷ 0 ∷ []) gives 6
    -- 7: an end of exactly 2^21 is accepted, a word further is not
    ∷ (0x845 ∷ 0x3BC000 ∷ 0x8270A ∷ 0xD02 ∷ 0 ∷ 0x181FB500 ∷ 0 ∷ 0x50 ∷ 0 ∷ []) gives 0
    ∷ (0x845 ∷ 0x3BC000 ∷ 0x8270A ∷ 0xD02 ∷ 0 ∷ 0x181FB502 ∷ 2 ∷ 0x50 ∷ 0 ∷ []) gives 7
    ∷ []

-- for a call that takes either: both panels are accepted, the other two PNRMODEs are not
abbrev pub either_verdicts : List Verdict
either_verdicts =
    (0x845 ∷ 0x3BC000 ∷ 0x8270A ∷ 0xD02 ∷ 0 ∷ 0x18000000 ∷ 0x4B00 ∷ 0x50 ∷ 0 ∷ []) gives 0
    ∷ (0x479 ∷ 0x014FC041 ∷ 0x0098EF09 ∷ 0x9 ∷ 0xB09 ∷ 0x18000000 ∷ 0x12C00 ∷ 0xF0 ∷ 0 ∷ []) gives 0
    ∷ (0x439 ∷ 0x014FC041 ∷ 0x0098EF09 ∷ 0x9 ∷ 0xB09 ∷ 0x18000000 ∷ 0x12C00 ∷ 0xF0 ∷ 0 ∷ []) gives 2
    ∷ (0x805 ∷ 0x3BC000 ∷ 0x8270A ∷ 0xD02 ∷ 0 ∷ 0x18000000 ∷ 0x4B00 ∷ 0x50 ∷ 0 ∷ []) gives 2
    ∷ []

abbrev pub agree : (Words → ℕ) → List Verdict → Bool
agree by [] = true
agree by (v ∷ vs) = eqb (by (nine_words v.words)) v.number && agree by vs

pub verdicts-agree : T (agree judge verdicts && agree judge_stn stn_verdicts && agree judge_either either_verdicts)
unfolding judge judge_stn judge_either lowest lower reserved_bit stn not_tft not_stn neither_panel no_such_mode outside_modes outside_stn_modes swaps_illegal stored_bits stn_bits panel_bits panel_width row_size_wrong end_differs past_bank row_offset
verdicts-agree = tt

-- ---- T11: 24 bits

-- width 1023 needs PAGEWIDTH 2046
pub width-1023 : (w : Words) → judge w ≡ 0 → bppmode w ≡ 13 → width w ≡ 1023 → pagewidth w ≡ 2046
unfolding stored_bits outside_modes
width-1023 w e m v = omega (arith, row-bits w (accepted-words w e), ap₂ ◌*◌ v (ap stored_bits m))

-- no PAGEWIDTH fits width 1024
never-fits : (w : Words) → stn w ≡ false → bppmode w ≡ 13 → width w ≡ 1024 → row_size_wrong w ≡ true
unfolding row_size_wrong stored_bits outside_modes panel_width panel_bits
never-fits w tft m v =
    rw tft
    (let bits : width w * stored_bits (bppmode w) ≡ 1024 * 32 = ap₂ ◌*◌ v (ap stored_bits m) in
    rw (ne_eqb (16 * pagewidth w) (width w * stored_bits (bppmode w)) (λ e. omega (arith, bits, e))))

-- so width 1024 gives 5, whatever the fields, where 1 to 4 do not apply
pub width-1024 : (w : Words) → bppmode w ≡ 13 → width w ≡ 1024 → reserved_bit w ≡ false
    → not_tft w ≡ false → swaps_illegal w ≡ false → judge w ≡ 5
unfolding judge first no_such_mode outside_modes not_tft
width-1024 w m v clear tft swaps =
    let other = tft-not-stn w (eqb-true (pnrmode w) 3 (not-false (eqb (pnrmode w) 3) tft)) in
    lowest-of-ascending-is-first 0 (word_cases w) tt ∙ rw (clear, tft, other, ap outside_modes m, swaps, never-fits w other m v)
