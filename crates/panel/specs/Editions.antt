-- How the two rule editions of an STN panel's pulses differ (§6.8). These are claims, `PulsesAgree`, `TicksDiffer`, `FramesAgree` and
-- `TftByEither`, so a reader must believe them; proofs/Editions proves them.
use Rattle.std.specs.Prelude.{true, false, [], ◌∷◌, ◌≡◌, ℕ, ◌+◌, ◌*◌, ◌<◌, get_or}
use Rattle.registers.specs.Fields.{wlh, wdly, stn}
use Rattle.registers.specs.declared.Words.{Words}
use Rattle.panel.specs.Counts.{edition_pulse, frame_ticks, panel_ticks}
use Rattle.panel.specs.Geometry.{height}

-- a pulse of n has the same ticks by both exactly where n is 0 or 1
abbrev pub PulsesAgree : Type 0
PulsesAgree = (n : ℕ) → (edition_pulse 1 n ≡ edition_pulse 2 n → n < 2) × (n < 2 → edition_pulse 1 n ≡ edition_pulse 2 n)

-- the ticks that a pulse has more by edition 1, for each n that WLH or WDLY can hold
abbrev pub longer_by : ℕ → ℕ
longer_by n = get_or (0 ∷ 0 ∷ 16 ∷ 64 ∷ []) n 0

-- and the ticks that a frame has more: both pulses of each line
abbrev pub TicksDiffer : Type 0
TicksDiffer =
    (w : Words) → stn w ≡ true → panel_ticks w 1 ≡ panel_ticks w 2 + height w * (longer_by (wlh w) + longer_by (wdly w))

-- so a frame is as long by both exactly where WLH and WDLY are 0 or 1
abbrev pub FramesAgree : Type 0
FramesAgree =
    (w : Words) → stn w ≡ true
    → (panel_ticks w 1 ≡ panel_ticks w 2 → (wlh w < 2) × (wdly w < 2))
    × (wlh w < 2 → wdly w < 2 → panel_ticks w 1 ≡ panel_ticks w 2)

-- a TFT panel's frame goes by no edition
abbrev pub TftByEither : Type 0
TftByEither = (w : Words) (edition : ℕ) → stn w ≡ false → panel_ticks w edition ≡ frame_ticks w
