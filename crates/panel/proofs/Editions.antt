-- The two rule editions (§6.8): the claims of specs/Editions.
use mathlib.Core.Path.{◌≡◌, refl, ap, ◌∙◌}
use Prim.Native.Nat.{ℕ, zero, suc, ◌+◌, ◌*◌, ◌<◌, ◌^◌}
use native.Mathlib.Nat.{mul-add}
use native.Mathlib.Omega.{arith}
use lib.Dec.{eqb, eqb→eq, lit<}
use lib.Pow.{pow-add}
use Rattle.laws.specs.ProductLaws.{product_le}
use Rattle.laws.specs.TableLaws.{number-passes}
use Rattle.registers.specs.Fields.{wlh, wdly}
use Rattle.registers.specs.declared.Words.{Words}
use Rattle.panel.specs.Counts.{pulse, later_pulse, edition_pulse, stn_line_ticks, stn_frame_ticks, panel_ticks}
use Rattle.panel.specs.Editions.{PulsesAgree, longer_by, TicksDiffer, FramesAgree, TftByEither}
use Rattle.panel.specs.Geometry.{height}

doubles : (n : ℕ) → pulse (suc n) ≡ pulse n * 2
doubles n = ap (λ (k : ℕ). 2 ^ k) (place n) ∙ pow-add 2 (4 + n) 1
  where
    place : (k : ℕ) → 4 + suc k ≡ 4 + k + 1
    place k = omega arith

-- from 2 on, edition 1 doubles where edition 2 adds 16
outgrows : (k : ℕ) → later_pulse (suc (suc k)) < pulse (suc (suc k))
outgrows zero = lit< tt
outgrows (suc k) = omega (arith, outgrows k, doubles (suc (suc k)))

pub pulses-agree : PulsesAgree
unfolding edition_pulse
pulses-agree zero = (λ e. lit< tt, λ h. refl)
pulses-agree (suc zero) = (λ e. lit< tt, λ h. refl)
pulses-agree (suc (suc k)) = (λ e. absurd (omega (arith, e, outgrows k)), λ h. absurd (omega arith))

-- ---- a line and a frame

module _ (n : ℕ) (h : n < 4) where
  pulse-longer : edition_pulse 1 n ≡ edition_pulse 2 n + longer_by n
  unfolding edition_pulse
  pulse-longer = eqb→eq _ _ (number-passes 4 (λ k. eqb (pulse k) (later_pulse k + longer_by k)) tt n h)

  by-none : n < 2 → longer_by n ≡ 0
  by-none low = omega (arith, pulse-longer, (pulses-agree n).1 low)

  only-below-2 : longer_by n ≡ 0 → n < 2
  only-below-2 none = (pulses-agree n).0 (omega (arith, pulse-longer, none))

module _ (w : Words) where
  abbrev more : ℕ
  more = longer_by (wlh w) + longer_by (wdly w)

  line-longer : stn_line_ticks (edition_pulse 1) w ≡ stn_line_ticks (edition_pulse 2) w + more
  unfolding stn_line_ticks
  line-longer = omega (arith, pulse-longer (wlh w) (omega arith), pulse-longer (wdly w) (omega arith))

  none_more : height w * more ≡ 0 → more ≡ 0
  none_more e = omega (arith, product_le 1 (height w) more more (omega arith) (omega arith), e)

pub ticks-differ : TicksDiffer
unfolding panel_ticks stn_frame_ticks
ticks-differ w on-stn = rw on-stn (ap (λ (t : ℕ). height w * t) (line-longer w) ∙ mul-add (height w) _ _)

pub frames-agree : FramesAgree
frames-agree w on-stn = (both-low, alike)
  where
    both-low : panel_ticks w 1 ≡ panel_ticks w 2 → (wlh w < 2) × (wdly w < 2)
    both-low e =
        let none : more w ≡ 0 = none_more w (omega (arith, ticks-differ w on-stn, e)) in
        (only-below-2 (wlh w) (omega arith) (omega arith), only-below-2 (wdly w) (omega arith) (omega arith))

    alike : wlh w < 2 → wdly w < 2 → panel_ticks w 1 ≡ panel_ticks w 2
    alike first second =
        let none : more w ≡ 0 = omega (arith, by-none (wlh w) (omega arith) first, by-none (wdly w) (omega arith) second) in
        omega (arith, ticks-differ w on-stn, ap (λ (t : ℕ). height w * t) none)

pub tft-by-either : TftByEither
unfolding panel_ticks
tft-by-either w edition on-tft = rw on-tft
