-- The worked cases T1 to T11 (§13.1), all under one claim. A row of the table holds what the definitions give and the numbers that the
-- case expects. What the rows compute has a name here; its `unfolding` line lists the definitions that it computes with, so that they
-- unfold wherever it does. It is the claim, so a reader must believe its table.
use Rattle.std.specs.Prelude.{Bool, true, false, ◌&&◌, List, [], ◌∷◌, map, ◌≡◌, ℕ, ◌*◌, ◌^◌, T, eqb, replicate}
use Rattle.laws.specs.Answers.{Answer, accepted, refused, Outcome, outcome, judged, and_then, mapped}
use Rattle.laws.specs.Booleans.{some_below}
use Rattle.laws.specs.Cases.{lowest, lower}
use Rattle.laws.specs.Storing.{stores}
use Rattle.registers.specs.Fields as Field
use Rattle.registers.specs.Fields.{bppmode, pagewidth, stn, reserved_bit}
use Rattle.registers.specs.Loading.{nine_words, load, too_short, short_of_nine}
use Rattle.registers.specs.declared.Words.{Words}
use Rattle.fields.specs.Writing.{write, field_too_wide}
use Rattle.fields.specs.declared.Fields.{Fields}
use Rattle.panel.specs.Counts.{accept_timed, timed_words, counts, rate, frame_ticks, panel_clocks, panel_ticks}
use Rattle.panel.specs.Geometry.{width, height, stored_bits, outside_modes, panel_bits, panel_width, row_offset}
use Rattle.panel.specs.Refusals.{judge, judge_either, judge_timed, accept, video_off, clock_too_fast, no_such_edition}
use Rattle.panel.specs.Refusals.{not_tft, neither_panel, no_such_mode, swaps_illegal, row_size_wrong, end_differs, past_bank}
use Rattle.panel.specs.Timing.{line_clocks, frame_lines, frame_clocks}
use Rattle.panel.specs.declared.frame.Counts.{Counts}
use Rattle.pixels.specs.Colours.{expanded, expanded565, expanded5551, cut24}
use Rattle.pixels.specs.Format.{format, expansion_of}
use Rattle.pixels.specs.Order as Order
use Rattle.pixels.specs.Order.{stored_pixel}
use Rattle.pixels.specs.Pixel.{shown}
use Rattle.pixels.specs.declared.colours.Expansion.{Expansion}
use Rattle.pixels.specs.declared.colours.Expansion.TheVariants.{Rgb565, Rgb5551}
use Rattle.drawing.specs.Colour.{lending, row_colour, colour}
use Rattle.drawing.specs.Drawing.{draw_row, draw_picture, colour_in_order, judge_row, judge_picture, judge_drawing}
use Rattle.drawing.specs.Drawing.{palette_wrong, row_outside}
use Rattle.memory.specs.declared.Screen.{Screen}
use Rattle.memory.specs.Memory.{screen, judge_memory, outside_memory, word_outside, row_address, first_word}

-- ---- rows

pub data Name : Type 0 where
  T1 T2 T3 T4 T5 T6 T7 T8 T9 T10 T11 : Name

-- a case, the numbers that the definitions give, and the numbers expected
pub record Row : Type 0 where
  pub name : Name
  pub given : List ℕ
  pub expected : List ℕ

abbrev row : Name → List ℕ → List ℕ → Row
row name given expected = record { name = name; given = given; expected = expected }

abbrev pub same : List ℕ → List ℕ → Bool
same [] [] = true
same [] (y ∷ ys) = false
same (x ∷ xs) [] = false
same (x ∷ xs) (y ∷ ys) = eqb x y && same xs ys

abbrev pub all_hold : List Row → Bool
all_hold [] = true
all_hold (r ∷ rs) = same r.given r.expected && all_hold rs

-- ---- answers as numbers: first the number of the refusal, 0 for none, then the values

abbrev answered : {A : Type 0} → (A → List ℕ) → Answer A → List ℕ
answered values (accepted a) = 0 ∷ values a
answered values (refused n) = n ∷ []

abbrev clocks_and_ticks : Counts → List ℕ
clocks_and_ticks c = c.clocks ∷ c.ticks ∷ []

abbrev alone : ℕ → List ℕ
alone n = n ∷ []

abbrev nine : Words → List ℕ
nine w =
    w.lcdcon1
    ∷ w.lcdcon2
    ∷ w.lcdcon3
    ∷ w.lcdcon4
    ∷ w.lcdcon5
    ∷ w.lcdsaddr1
    ∷ w.lcdsaddr2
    ∷ w.lcdsaddr3
    ∷ w.tpal
    ∷ []

abbrev left_by : Outcome → List ℕ
left_by o = o.refusal ∷ o.left

-- ---- inputs of the cases

-- T1's words, window start and memory; its mode uses no palette, so a palette of zeros is lent
abbrev t1 : List ℕ
t1 = 0x7B ∷ 0x4000 ∷ 0 ∷ 0 ∷ 0 ∷ 0x18000000 ∷ 4 ∷ 2 ∷ 0 ∷ []

abbrev t1_screen : Screen
t1_screen = screen (nine_words t1) 0x30000000

abbrev t1_memory : List ℕ
t1_memory = 0x00112233 ∷ 0x00AABBCC ∷ []

abbrev zeros : List ℕ
zeros = replicate 256 0

-- T9's words; T8 and T10 use the same panel
abbrev t9 : List ℕ
t9 = 0x479 ∷ 0x014FC041 ∷ 0x0098EF09 ∷ 0x9 ∷ 0xB09 ∷ 0x18000000 ∷ 0x12C00 ∷ 0xF0 ∷ 0 ∷ []

-- the fields of that panel
abbrev t9_fields : Fields
t9_fields =
    record {
      lcdcon1 = record { clkval = 4; mmode = 0; pnrmode = 3; bppmode = 12; envid = 1 };
      lcdcon2 = record { vbpd = 1; lineval = 319; vfpd = 1; vspw = 1 };
      lcdcon3 = record { hbpd = 19; hozval = 239; hfpd = 9 };
      lcdcon4 = record { mval = 0; hspw = 9 };
      lcdcon5 = record {
        bpp24bl = 0;
        frm565 = 1;
        invvclk = 0;
        invvline = 1;
        invvframe = 1;
        invvd = 0;
        invvden = 0;
        invpwren = 0;
        invlend = 0;
        pwren = 1;
        enlend = 0;
        bswp = 0;
        hwswp = 1;
      };
      lcdsaddr1 = record { lcdbank = 192; lcdbaseu = 0 };
      lcdsaddr2 = record { lcdbasel = 76800 };
      lcdsaddr3 = record { offsize = 0; pagewidth = 240 };
      tpal = record { tpalen = 0; tpalval = 0 };
    }

-- T11's words: one line at 24 bits with PAGEWIDTH 2046, by HOZVAL
abbrev t11 : ℕ → List ℕ
t11 hozval = 0x7B ∷ 0 ∷ hozval * 2 ^ 8 ∷ 0 ∷ 0 ∷ 0x18000000 ∷ 2046 ∷ 2046 ∷ 0 ∷ []

-- ---- what the rows compute

-- the judgement of nine words by 1 to 7 (§9.3)
unfoldable pub judgement : List ℕ → ℕ
unfolding judge lowest lower reserved_bit stn not_tft no_such_mode outside_modes swaps_illegal stored_bits panel_bits panel_width row_size_wrong end_differs past_bank row_offset
judgement words = judge (nine_words words)

-- clocks and ticks of a frame (§6.3), and its rate at an HCLK (§6.4), by rule edition 1: the panels are TFT
unfoldable pub counted : List ℕ → List ℕ
unfolding judgement counts mapped accept_timed timed_words accept judge_either neither_panel judge_timed clock_too_fast no_such_edition and_then load short_of_nine judged line_clocks frame_lines frame_clocks frame_ticks panel_clocks panel_ticks
counted words = answered clocks_and_ticks (counts words 1)

unfoldable pub rated : List ℕ → ℕ → List ℕ
unfolding counted rate
rated words hclk = answered alone (rate words 1 hclk)

-- the sizes in the words: W, H, HSPW, HBPD, HFPD, VSPW, VBPD, VFPD, CLKVAL
abbrev sizes : Words → List ℕ
sizes w =
    width w
    ∷ height w
    ∷ Field.hspw w
    ∷ Field.hbpd w
    ∷ Field.hfpd w
    ∷ Field.vspw w
    ∷ Field.vbpd w
    ∷ Field.vfpd w
    ∷ Field.clkval w
    ∷ []

-- the stored bits of a pixel in the words' mode (§2.2)
unfoldable pub depth : List ℕ → ℕ
unfolding stored_bits
depth words = stored_bits (bppmode (nine_words words))

-- pixels of the word 0x01234567, by stored bits, BSWP, HWSWP and the pixels' places in the word (§4.1 to §4.3)
unfoldable pub pixels : ℕ → Bool → Bool → List ℕ → List ℕ
unfolding stored_pixel Order.in_order Order.reverse_bytes Order.exchange_halves Order.pixel_bits
pixels s bswp hwswp numbers = map (stored_pixel s bswp hwswp (0x01234567 ∷ []) 0) numbers

-- colours of stored 24-bit pixels (§4.5) and of 16-bit numbers (§5.2, §5.3)
unfoldable pub cuts : Bool → List ℕ → List ℕ
unfolding cut24
cuts bpp24bl numbers = map (cut24 bpp24bl) numbers

unfoldable pub expansions : Expansion → List ℕ → List ℕ
unfolding expanded expanded565 expanded5551
expansions e numbers = map (expanded e) numbers

-- the words into which fields are packed (§1.5)
unfoldable pub written : Fields → List ℕ
unfolding judged write field_too_wide
written fields = answered nine (write fields)

-- the judgement of nine words by 1 to 8, with a window start and the number of memory words lent (§3.6)
unfoldable pub judgement_of : List ℕ → ℕ → ℕ → ℕ
unfolding judgement judge_memory outside_memory word_outside row_address some_below
judgement_of words window-start lent = judge_memory (screen (nine_words words) window-start) lent

-- the colour of a pixel of T1's panel (§5.5)
unfoldable pub t1_colour : ℕ → ℕ → ℕ
unfolding pixels cuts expansions colour row_colour shown format expansion_of first_word row_address
t1_colour r c = colour t1_screen (lending t1_memory zeros) r c

-- T1's picture, and a row of it, drawn to lent entries (§5.6)
unfoldable pub t1_picture : List ℕ → List ℕ
unfolding judgement_of t1_colour draw_picture judge_picture judge_drawing video_off palette_wrong too_short outcome stores colour_in_order
t1_picture lent = left_by (draw_picture t1_screen (lending t1_memory zeros) lent)

unfoldable pub t1_row : ℕ → List ℕ → List ℕ
unfolding t1_picture draw_row judge_row row_outside
t1_row r lent = left_by (draw_row t1_screen (lending t1_memory zeros) r lent)

-- ---- the table

abbrev pub rows : List Row
rows =
    -- T1: clocks 20 hclk 40 mhz 25000
    row T1 (counted t1) (0 ∷ 20 ∷ 40 ∷ [])
    ∷ row T1 (rated t1 1000) (0 ∷ 25000 ∷ [])
    -- T1: its two colours 112233, aabbcc; the picture of them; a third entry stays
    ∷ row T1 (map (λ r. t1_colour r 0) (0 ∷ 1 ∷ [])) (0x112233 ∷ 0xAABBCC ∷ [])
    ∷ row T1 (t1_picture (0 ∷ 0 ∷ [])) (0 ∷ 0x112233 ∷ 0xAABBCC ∷ [])
    ∷ row T1 (t1_picture (7 ∷ 8 ∷ 9 ∷ [])) (0 ∷ 0x112233 ∷ 0xAABBCC ∷ 9 ∷ [])
    -- T1: its two rows, each drawn to the first of two lent entries
    ∷ row T1 (t1_row 0 (7 ∷ 8 ∷ [])) (0 ∷ 0x112233 ∷ 8 ∷ [])
    ∷ row T1 (t1_row 1 (7 ∷ 8 ∷ [])) (0 ∷ 0xAABBCC ∷ 8 ∷ [])
    -- T2: the four pixels of 0x01234567 at 8 bits, without and with BSWP
    ∷ row T2 (pixels 8 false false (0 ∷ 1 ∷ 2 ∷ 3 ∷ [])) (0x01 ∷ 0x23 ∷ 0x45 ∷ 0x67 ∷ [])
    ∷ row T2 (pixels 8 true false (0 ∷ 1 ∷ 2 ∷ 3 ∷ [])) (0x67 ∷ 0x45 ∷ 0x23 ∷ 0x01 ∷ [])
    -- T3: its eight pixels at 4 bits with BSWP: each byte keeps its nibbles in order
    ∷ row T3 (pixels 4 true false (0 ∷ 1 ∷ 2 ∷ 3 ∷ 4 ∷ 5 ∷ 6 ∷ 7 ∷ [])) (6 ∷ 7 ∷ 4 ∷ 5 ∷ 2 ∷ 3 ∷ 0 ∷ 1 ∷ [])
    -- T4: its two pixels at 16 bits, without and with HWSWP
    ∷ row T4 (pixels 16 false false (0 ∷ 1 ∷ [])) (0x0123 ∷ 0x4567 ∷ [])
    ∷ row T4 (pixels 16 false true (0 ∷ 1 ∷ [])) (0x4567 ∷ 0x0123 ∷ [])
    -- T5: its colour at 24 bits, with BPP24BL 0 and 1
    ∷ row T5 (cuts false (pixels 32 false false (0 ∷ []))) (0x234567 ∷ [])
    ∷ row T5 (cuts true (pixels 32 false false (0 ∷ []))) (0x012345 ∷ [])
    -- T6: colours of 5:6:5 numbers
    ∷ row T6 (expansions Rgb565 (0xFFFF ∷ 0x07E0 ∷ [])) (0xF8FCF8 ∷ 0x00FC00 ∷ [])
    -- T7: colours of 5:5:5:1 numbers
    ∷ row T7 (expansions Rgb5551 (0xFFFF ∷ 0x0001 ∷ [])) (0xFCFCFC ∷ 0x040404 ∷ [])
    -- T8: the sizes of a 240 by 320 panel
    ∷ row T8 (sizes (nine_words t9)) (240 ∷ 320 ∷ 9 ∷ 19 ∷ 9 ∷ 1 ∷ 1 ∷ 1 ∷ 4 ∷ [])
    -- T8: its clocks and ticks, and its rate in millihertz at 100 MHz
    ∷ row T8 (counted t9) (0 ∷ 91280 ∷ 912800 ∷ [])
    ∷ row T8 (rated t9 100000000) (0 ∷ 109553 ∷ [])
    -- T9: T8's panel at 16 bits: its fields give these nine words
    ∷ row T9 (depth t9 ∷ []) (16 ∷ [])
    ∷ row T9 (written t9_fields) (0 ∷ t9)
    -- T10: T9's panel is refused with one memory word less than its 38,400
    ∷ row T10 (map (judgement_of t9 0x30000000) (38399 ∷ 38400 ∷ [])) (8 ∷ 0 ∷ [])
    -- T11: at 24 bits with PAGEWIDTH 2046, width 1023 is accepted, width 1024 gives 5
    ∷ row T11 (map (λ hozval. judgement (t11 hozval)) (1022 ∷ 1023 ∷ [])) (0 ∷ 5 ∷ [])
    ∷ []

-- ---- the claim

pub record WorkedCases : Type 0 where
  -- T1 to T10, and T11's two examples
  pub table : T (all_hold rows)
  -- T11 (§3.4): at 24 bits a width of 1023 is accepted with PAGEWIDTH 2046 only
  pub width-1023 : (w : Words) → judge w ≡ 0 → bppmode w ≡ 13 → width w ≡ 1023 → pagewidth w ≡ 2046
  -- T11 (§3.4): at 24 bits a width of 1024 gives 5 whatever PAGEWIDTH is, unless a lower number applies
  pub width-1024 : (w : Words) → bppmode w ≡ 13 → width w ≡ 1024 → reserved_bit w ≡ false
      → not_tft w ≡ false → swaps_illegal w ≡ false → judge w ≡ 5
