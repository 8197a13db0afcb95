-- Bounds of every size that the fields can give, whatever the words (§2.1, §2.3, §3.2, §6.1 to §6.3, §6.8), so that nothing overflows.
use Prim.Native.Nat.{ℕ, ◌+◌, ◌*◌, ◌<◌, ◌≤◌, ◌^◌}
use native.Mathlib.Omega.{arith}
use lib.Dec.{eqb}
use lib.Pow.{pow_mono}
use Rattle.laws.specs.BooleanLaws.{either_way}
use Rattle.laws.specs.ProductLaws.{product_le}
use Rattle.registers.specs.Fields.{clkval, hozval, wlh, wdly, stn}
use Rattle.registers.specs.declared.Words.{Words}
use Rattle.panel.specs.Counts.{frame_ticks, pulse, edition_pulse, stn_line_ticks, stn_frame_ticks, panel_ticks}
use Rattle.panel.specs.Geometry.{width, height, panel_width, pitch, row_offset}
use Rattle.panel.specs.Timing.{timing, line_clocks, frame_lines, frame_clocks}

-- ---- the panel

pub width-le : (w : Words) → width w ≤ 2048
width-le w = omega arith

pub height-le : (w : Words) → height w ≤ 1024
height-le w = omega arith

pub panel-width-le : (w : Words) → panel_width w ≤ 16384
unfolding panel_width
panel-width-le w = either_way (λ k. k ≤ 16384) (stn w) (omega arith) (omega arith)

pub pitch-le : (w : Words) → pitch w ≤ 4094
pitch-le w = omega arith

pub row-offset-le : (w : Words) (r n : ℕ) → r ≤ n → row_offset w r ≤ 2 ^ 21 + n * 4094
unfolding row_offset
row-offset-le w r n h = omega (arith, product_le r n (pitch w) 4094 h (pitch-le w))

-- ---- the frame

pub line-clocks-le : (w : Words) → line_clocks (timing w) ≤ 2688
unfolding line_clocks
line-clocks-le w = omega arith

pub line-clocks-ge : (w : Words) → 4 ≤ line_clocks (timing w)
unfolding line_clocks
line-clocks-ge w = omega arith

pub frame-lines-le : (w : Words) → frame_lines (timing w) ≤ 1600
unfolding frame_lines
frame-lines-le w = omega arith

pub frame-lines-ge : (w : Words) → 4 ≤ frame_lines (timing w)
unfolding frame_lines
frame-lines-ge w = omega arith

pub frame-clocks-le : (w : Words) → frame_clocks (timing w) ≤ 4300800
unfolding frame_clocks
frame-clocks-le w = product_le (frame_lines (timing w)) 1600 (line_clocks (timing w)) 2688 (frame-lines-le w) (line-clocks-le w)

pub frame-clocks-ge : (w : Words) → 16 ≤ frame_clocks (timing w)
unfolding frame_clocks
frame-clocks-ge w = product_le 4 (frame_lines (timing w)) 4 (line_clocks (timing w)) (frame-lines-ge w) (line-clocks-ge w)

pub frame-ticks-le : (w : Words) → frame_ticks w ≤ 8808038400
unfolding frame_ticks
frame-ticks-le w = product_le (2 * (clkval w + 1)) 2048 (frame_clocks (timing w)) 4300800 (omega arith) (frame-clocks-le w)

pub frame-ticks-ge : (w : Words) → 32 ≤ frame_ticks w
unfolding frame_ticks
frame-ticks-ge w = product_le 2 (2 * (clkval w + 1)) 16 (frame_clocks (timing w)) (omega arith) (frame-clocks-ge w)

-- ---- the frame of an STN panel

pulse-le : (n : ℕ) → n < 4 → pulse n ≤ 128
pulse-le n h = pow_mono (below n h)
  where
    below : (k : ℕ) → k < 4 → 4 + k ≤ 7
    below k l = omega arith

pulse-ge : (n : ℕ) → 16 ≤ pulse n
pulse-ge n = pow_mono (above n)
  where
    above : (k : ℕ) → 4 ≤ 4 + k
    above k = omega arith

module _ (edition n : ℕ) where
  pub edition-pulse-le : n < 4 → edition_pulse edition n ≤ 128
  unfolding edition_pulse
  edition-pulse-le h = either_way (λ k. k ≤ 128) (eqb edition 2) (omega arith) (pulse-le n h)

  edition-pulse-ge : 16 ≤ edition_pulse edition n
  unfolding edition_pulse
  edition-pulse-ge = either_way (λ k. 16 ≤ k) (eqb edition 2) (omega arith) (pulse-ge n)

pub stn-data-le : (w : Words) → 2 * clkval w * (hozval w + 1) ≤ 4190208
stn-data-le w = product_le (2 * clkval w) 2046 (hozval w + 1) 2048 (omega arith) (omega arith)

module _ (w : Words) (edition : ℕ) where
  pub stn-line-ticks-le : stn_line_ticks (edition_pulse edition) w ≤ 4192504
  unfolding stn_line_ticks
  stn-line-ticks-le =
      omega
      (arith, stn-data-le w, edition-pulse-le edition (wlh w) (omega arith), edition-pulse-le edition (wdly w) (omega arith))

  pub stn-line-ticks-ge : 32 ≤ stn_line_ticks (edition_pulse edition) w
  unfolding stn_line_ticks
  stn-line-ticks-ge = omega (arith, edition-pulse-ge edition (wlh w), edition-pulse-ge edition (wdly w))

  pub stn-frame-ticks-ge : 32 ≤ stn_frame_ticks (edition_pulse edition) w
  unfolding stn_frame_ticks
  stn-frame-ticks-ge = product_le 1 (height w) 32 (stn_line_ticks (edition_pulse edition) w) (omega arith) stn-line-ticks-ge

-- ---- of either

pub panel-ticks-ge : (w : Words) (edition : ℕ) → 32 ≤ panel_ticks w edition
unfolding panel_ticks
panel-ticks-ge w edition = either_way (λ k. 32 ≤ k) (stn w) (stn-frame-ticks-ge w edition) (frame-ticks-ge w)
