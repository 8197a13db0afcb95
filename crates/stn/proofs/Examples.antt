-- Worked examples of greys (§5.8, §5.9) and of the STN drawing (§5.10), tried on the definitions. Their numbers are worked out apart
-- from them.
use mathlib.Core.Bool.{Bool, true, false}
use mathlib.Core.List.{List, [], ◌∷◌, map}
use mathlib.Core.Path.{◌≡◌, refl}
use Prim.Native.Nat.{ℕ, ◌-◌, ◌^◌}
use Rattle.laws.specs.Answers.{outcome}
use Rattle.laws.specs.Booleans.{some_below}
use Rattle.laws.specs.Cases.{lowest, lower}
use Rattle.laws.specs.Storing.{stores}
use Rattle.memory.specs.Memory.{screen, row_address, word_outside, outside_memory, first_word}
use Rattle.memory.specs.declared.Screen.{Screen}
use Rattle.panel.specs.Geometry.{outside_modes, stored_bits, stn_bits, outside_stn_modes, panel_width, panel_bits, row_offset}
use Rattle.panel.specs.Refusals.{not_stn, no_such_mode, swaps_illegal, row_size_wrong, end_differs, past_bank, clock_too_fast, video_off}
use Rattle.pixels.specs.Order.{reverse_bytes, in_order, pixel_bits, stored_pixel}
use Rattle.registers.specs.Fields.{stn, reserved_bit}
use Rattle.registers.specs.Loading.{nine_words, too_short}
use Rattle.stn.specs.Drawing.{row_bytes, byte_in, stn_byte, judge_stn_drawing, draw_stn}
use Rattle.stn.specs.Greys.{duty, lit, lit_bits, packed, row_byte}

-- ---- bytes of a row

-- sixteen pixels, level c in column c
abbrev ramp : List ℕ
ramp = 0x01234567 ∷ 0x89ABCDEF ∷ []

-- the bytes of a row at a phase
abbrev bytes_at : ℕ → Bool → List ℕ → List ℕ → ℕ → List ℕ
bytes_at bits bswp memory columns phase = map (row_byte bits bswp memory 0 phase) columns

pub ramp-in-seven-frames : map (bytes_at 4 false ramp (0 ∷ 1 ∷ [])) (0 ∷ 1 ∷ 2 ∷ 3 ∷ 4 ∷ 5 ∷ 6 ∷ [])
    ≡ (0x04 ∷ 0x4F ∷ []) ∷ (0x13 ∷ 0xF5 ∷ []) ∷ (0x08 ∷ 0x3F ∷ []) ∷ (0x25 ∷ 0xDB ∷ []) ∷ (0x02 ∷ 0x2F ∷ [])
    ∷ (0x1D ∷ 0xF7 ∷ []) ∷ (0x42 ∷ 0xDF ∷ []) ∷ []
unfolding row_byte packed lit_bits duty lit stored_pixel pixel_bits in_order
ramp-in-seven-frames = refl

-- mono, at any phase
abbrev mono_bytes : Bool → ℕ → List ℕ
mono_bytes bswp = bytes_at 1 bswp (0x12345678 ∷ []) (0 ∷ 1 ∷ 2 ∷ 3 ∷ [])

pub mono-bytes : (phase : ℕ) → mono_bytes false phase ≡ 0x12 ∷ 0x34 ∷ 0x56 ∷ 0x78 ∷ []
unfolding row_byte packed lit_bits stored_pixel pixel_bits in_order
mono-bytes phase = refl

pub mono-bytes-swapped : (phase : ℕ) → mono_bytes true phase ≡ 0x78 ∷ 0x56 ∷ 0x34 ∷ 0x12 ∷ []
unfolding row_byte packed lit_bits stored_pixel pixel_bits in_order reverse_bytes
mono-bytes-swapped phase = refl

-- ---- drawings of a panel of 8 by 2 in 16 greys

-- by LCDCON1 and LCDCON5
abbrev panel : ℕ → ℕ → Screen
panel con1 con5 =
    screen (nine_words (con1 ∷ 0x4000 ∷ 0 ∷ 0 ∷ con5 ∷ 0x18000000 ∷ 4 ∷ 2 ∷ 0 ∷ [])) 0x30000000

abbrev drawn_at : ℕ → ℕ → List ℕ
drawn_at con5 f = (draw_stn (panel 0x245 con5) ramp f (0xAA ∷ 0xAA ∷ 0xAA ∷ [])).left

-- levels 0 to 7 in row 0, 8 to 15 in row 1; the last frame number, where f + r + c passes 2^32; and with BSWP
pub drawings : drawn_at 0 0 ∷ drawn_at 0 6 ∷ drawn_at 0 (2 ^ 32 - 1) ∷ drawn_at 2 3 ∷ []
    ≡ (0x04 ∷ 0x63 ∷ 0xAA ∷ []) ∷ (0x42 ∷ 0xBF ∷ 0xAA ∷ []) ∷ (0x05 ∷ 0xFB ∷ 0xAA ∷ []) ∷ (0xC4 ∷ 0xFC ∷ 0xAA ∷ [])
    ∷ []
unfolding draw_stn outcome stores stn_byte byte_in row_bytes row_byte packed lit_bits duty lit stored_pixel pixel_bits in_order reverse_bytes judge_stn_drawing lowest lower reserved_bit stn not_stn no_such_mode outside_stn_modes swaps_illegal stn_bits panel_bits panel_width row_size_wrong end_differs past_bank row_offset outside_memory some_below word_outside row_address first_word video_off too_short clock_too_fast
drawings = refl

-- refusals by LCDCON1, lent words and lent bytes: none; 17 (CLKVAL 1), after 10 (a byte too few), after 9 (ENVID 0), after 8 (a word too
-- few); 3 (BPPMODE 1); 2 (TFT)
abbrev judged_by : ℕ → ℕ → ℕ → ℕ
judged_by con1 lent room = judge_stn_drawing (panel con1 0) lent room

pub judgements : judged_by 0x245 2 2 ∷ judged_by 0x145 2 2 ∷ judged_by 0x145 2 1 ∷ judged_by 0x144 2 1 ∷ judged_by 0x144 1 1
    ∷ judged_by 0x243 2 2 ∷ judged_by 0x265 2 2 ∷ []
    ≡ 0 ∷ 17 ∷ 10 ∷ 9 ∷ 8 ∷ 3 ∷ 2 ∷ []
unfolding judge_stn_drawing row_bytes lowest lower reserved_bit stn not_stn no_such_mode outside_modes outside_stn_modes swaps_illegal stored_bits stn_bits panel_bits panel_width row_size_wrong end_differs past_bank row_offset outside_memory some_below word_outside row_address video_off too_short clock_too_fast
judgements = refl
