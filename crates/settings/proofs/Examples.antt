-- Loads checked against independent numbers (§1.8): T1's words (§13.1), with read-only bits set, over a block of ten entries.
use mathlib.Core.List.{List, [], ◌∷◌, map}
use mathlib.Core.Path.{◌≡◌, refl}
use Prim.Native.Nat.{ℕ}
use lib.ListN.{take, drop}
use Rattle.laws.specs.Answers.{judged, judged_on, Outcome, leaves, outcome}
use Rattle.laws.specs.Booleans.{some_below}
use Rattle.laws.specs.Cases.{lowest, lower}
use Rattle.memory.specs.Memory.{row_address, word_outside, outside_memory, judge_check, check}
use Rattle.panel.specs.Geometry.{outside_modes, outside_stn_modes, stored_bits, stn_bits, panel_bits, panel_width, row_offset}
use Rattle.panel.specs.Refusals.{not_tft, not_stn, neither_panel, no_such_mode, swaps_illegal, row_size_wrong, end_differs, past_bank, clock_too_fast}
use Rattle.registers.specs.Fields.{stn, reserved_bit}
use Rattle.registers.specs.Loading.{too_short, short_of_nine, load}
use Rattle.settings.specs.Stores.{with_video_off, ten_stores, after_stores, after_cut, judge_load, load_settings}

abbrev pub new : List ℕ
new = 0x14007b ∷ 0x4000 ∷ 0 ∷ 0 ∷ 0x18000 ∷ 0x18000000 ∷ 4 ∷ 2 ∷ 0 ∷ []

abbrev pub old : List ℕ
old = 100 ∷ 101 ∷ 102 ∷ 103 ∷ 104 ∷ 105 ∷ 106 ∷ 107 ∷ 108 ∷ 109 ∷ []

abbrev pub loaded : ℕ → Outcome
loaded cut = load_settings old new 0x30000000 (0x112233 ∷ 0xAABBCC ∷ []) cut

-- cut after no store, one, two, nine, ten; above 10 is 10
pub cuts-hold : map loaded (0 ∷ 1 ∷ 2 ∷ 9 ∷ 10 ∷ 11 ∷ 4294967295 ∷ [])
    ≡ leaves 0 (100 ∷ 101 ∷ 102 ∷ 103 ∷ 104 ∷ 105 ∷ 106 ∷ 107 ∷ 108 ∷ 109 ∷ [])
    ∷ leaves 0 (0x14007a ∷ 101 ∷ 102 ∷ 103 ∷ 104 ∷ 105 ∷ 106 ∷ 107 ∷ 108 ∷ 109 ∷ [])
    ∷ leaves 0 (0x14007a ∷ 0x4000 ∷ 102 ∷ 103 ∷ 104 ∷ 105 ∷ 106 ∷ 107 ∷ 108 ∷ 109 ∷ [])
    ∷ leaves 0 (0x14007a ∷ 0x4000 ∷ 0 ∷ 0 ∷ 0x18000 ∷ 0x18000000 ∷ 4 ∷ 2 ∷ 0 ∷ 109 ∷ [])
    ∷ leaves 0 (0x14007b ∷ 0x4000 ∷ 0 ∷ 0 ∷ 0x18000 ∷ 0x18000000 ∷ 4 ∷ 2 ∷ 0 ∷ 109 ∷ [])
    ∷ leaves 0 (0x14007b ∷ 0x4000 ∷ 0 ∷ 0 ∷ 0x18000 ∷ 0x18000000 ∷ 4 ∷ 2 ∷ 0 ∷ 109 ∷ [])
    ∷ leaves 0 (0x14007b ∷ 0x4000 ∷ 0 ∷ 0 ∷ 0x18000 ∷ 0x18000000 ∷ 4 ∷ 2 ∷ 0 ∷ 109 ∷ [])
    ∷ []
unfolding load_settings judge_load judged_on load judged short_of_nine too_short lowest lower check judge_check outside_memory word_outside some_below row_address row_offset reserved_bit stn not_tft not_stn neither_panel no_such_mode outside_modes swaps_illegal stored_bits panel_bits panel_width row_size_wrong end_differs past_bank clock_too_fast outcome after_cut after_stores ten_stores with_video_off
cuts-hold = refl

-- a grey STN panel of 8 by 1 pixels, by its LCDCON1
abbrev pub stn_words : ℕ → List ℕ
stn_words lcdcon1 = lcdcon1 ∷ 0 ∷ 0 ∷ 0 ∷ 0 ∷ 0x18000000 ∷ 2 ∷ 2 ∷ 0 ∷ []

-- the number for a block, new words and memory
abbrev pub number : List ℕ → List ℕ → List ℕ → ℕ
number block words memory = judge_load block words 0x30000000 memory

-- memory is needed for every row, and a CLKVAL of 2 on STN; 10 comes before all; ENVID 0 is no refusal
abbrev pub numbers : List ℕ
numbers =
    number old new (0 ∷ 0 ∷ [])
    ∷ number old new (0 ∷ [])
    ∷ number (take 8 old) new (0 ∷ 0 ∷ [])
    ∷ number old (take 8 new) (0 ∷ 0 ∷ [])
    ∷ number old (0x14007A ∷ drop 1 new) (0 ∷ 0 ∷ [])
    ∷ number old (0x14003B ∷ drop 1 new) (0 ∷ [])
    ∷ number (take 8 old) (0x14003B ∷ drop 1 new) (0 ∷ [])
    ∷ number old (stn_words 0x245) (0 ∷ [])
    ∷ number old (stn_words 0x145) (0 ∷ [])
    ∷ number old (stn_words 0x145) []
    ∷ []

pub numbers-hold : numbers ≡ 0 ∷ 8 ∷ 10 ∷ 10 ∷ 0 ∷ 2 ∷ 10 ∷ 0 ∷ 17 ∷ 8 ∷ []
unfolding judge_load judged_on load judged short_of_nine too_short lowest lower check judge_check outside_memory word_outside some_below row_address row_offset reserved_bit stn not_tft not_stn neither_panel no_such_mode outside_modes outside_stn_modes swaps_illegal stored_bits stn_bits panel_bits panel_width row_size_wrong end_differs past_bank clock_too_fast
numbers-hold = refl
