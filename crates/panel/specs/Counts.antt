-- A frame's clocks and HCLK ticks (§6.3) and its rate (§6.4), on STN too (§6.8), of words that 1 to 7 and 17 let pass, by
-- the rule edition of its pulses, which 27 judges (§9.3). `frame_ticks` and `frame_millihertz` are a TFT panel's. Promises cite it, so a
-- reader must believe it.
use Rattle.std.specs.Prelude.{cond, List, ℕ, ◌+◌, ◌*◌, ◌/◌, ◌^◌, eqb}
use Rattle.laws.specs.Answers.{Answer, judged, and_then, mapped}
use Rattle.registers.specs.Fields.{clkval, hozval, wlh, wdly, lineblank, stn}
use Rattle.registers.specs.declared.Words.{Words}
use Rattle.panel.specs.Geometry.{height}
use Rattle.panel.specs.Refusals.{accept, judge_timed}
use Rattle.panel.specs.Timing.{timing, frame_clocks}
use Rattle.panel.specs.declared.frame.Counts.{Counts}

-- HCLK ticks of a frame: 2 × (CLKVAL+1) for each clock (§6.3)
unfoldable pub frame_ticks : Words → ℕ
frame_ticks w = 2 * (clkval w + 1) * frame_clocks (timing w)

-- the frame rate in millihertz, rounded down, for an HCLK in Hz (§6.4)
abbrev pub frame_millihertz : Words → ℕ → ℕ
frame_millihertz w hclk = hclk * 1000 / frame_ticks w

-- ---- on STN (§6.8)

-- HCLK ticks of a pulse, by WLH or WDLY: rule edition 1
abbrev pub pulse : ℕ → ℕ
pulse n = 2 ^ (4 + n)

-- rule edition 2, of later boards
abbrev pub later_pulse : ℕ → ℕ
later_pulse n = 16 * (n + 1)

-- by the rule edition, which 27 keeps to 1 and 2
unfoldable pub edition_pulse : ℕ → ℕ → ℕ
edition_pulse edition n = cond (eqb edition 2) (later_pulse n) (pulse n)

-- HCLK ticks of a line, by the rule for its pulses: the data, the two pulses, the blank part
unfoldable pub stn_line_ticks : (ℕ → ℕ) → Words → ℕ
stn_line_ticks pulse_of w = 2 * clkval w * (hozval w + 1) + pulse_of (wlh w) + pulse_of (wdly w) + 8 * lineblank w

-- clocks and ticks of a frame: H lines
unfoldable pub stn_frame_clocks : Words → ℕ
stn_frame_clocks w = height w * (hozval w + 1)

unfoldable pub stn_frame_ticks : (ℕ → ℕ) → Words → ℕ
stn_frame_ticks pulse_of w = height w * stn_line_ticks pulse_of w

-- ---- by the panel that PNRMODE selects

unfoldable pub panel_clocks : Words → ℕ
panel_clocks w = cond (stn w) (stn_frame_clocks w) (frame_clocks (timing w))

unfoldable pub panel_ticks : Words → ℕ → ℕ
panel_ticks w edition = cond (stn w) (stn_frame_ticks (edition_pulse edition) w) (frame_ticks w)

abbrev pub panel_millihertz : Words → ℕ → ℕ → ℕ
panel_millihertz w edition hclk = hclk * 1000 / panel_ticks w edition

-- a frame's clocks and ticks
abbrev pub counts_of : Words → ℕ → Counts
counts_of w edition = record { clocks = panel_clocks w; ticks = panel_ticks w edition }

-- words that neither 17 nor 27 refuses
unfoldable pub timed_words : Words → ℕ → Answer Words
timed_words w edition = judged (judge_timed w edition) w

-- the words in a slice: 10 first where it has fewer than nine entries, then 1 to 7, 17, 27 (§9.3)
unfoldable pub accept_timed : List ℕ → ℕ → Answer Words
accept_timed s edition = and_then (accept s) (λ w. timed_words w edition)

unfoldable pub counts : List ℕ → ℕ → Answer Counts
counts s edition = mapped (λ w. counts_of w edition) (accept_timed s edition)

unfoldable pub rate : List ℕ → ℕ → ℕ → Answer ℕ
rate s edition hclk = mapped (λ w. panel_millihertz w edition hclk) (accept_timed s edition)
