-- The scan of T1's panel, clock by clock, and some clocks of T8's (§13.1). The claim and the calls share the definitions of the levels,
-- the frame's length and the clock of a pixel, so these are held against numbers worked out by hand here.
use mathlib.Core.List.{List, [], ◌∷◌, ◌++◌}
use mathlib.Core.Path.{◌≡◌, refl}
use Prim.Native.Nat.{ℕ, zero, suc}
use lib.ListN.{replicate}
use Rattle.std.specs.Prelude.{Some, None}
use Rattle.laws.specs.Answers.{Answer, accepted, refused, judged, outcome, or_else, number_of}
use Rattle.laws.specs.Booleans.{some_below}
use Rattle.laws.specs.Cases.{lowest, lower}
use Rattle.drawing.specs.Colour.{Lent, row_colour, colour}
use Rattle.drawing.specs.Drawing.{palette_wrong}
use Rattle.memory.specs.Memory.{screen, outside_memory, word_outside, row_address, first_word}
use Rattle.panel.specs.Geometry.{stored_bits, outside_modes, panel_bits, panel_width, row_offset}
use Rattle.panel.specs.Refusals.{not_tft, no_such_mode, swaps_illegal, row_size_wrong, end_differs, past_bank, video_off}
use Rattle.panel.specs.Timing.{timing, line_clocks, frame_lines, frame_clocks}
use Rattle.pixels.specs.Colours.{cut24}
use Rattle.pixels.specs.Format.{format}
use Rattle.pixels.specs.Order as Order
use Rattle.pixels.specs.Order.{stored_pixel}
use Rattle.pixels.specs.Pixel.{shown}
use Rattle.registers.specs.Fields.{stn, reserved_bit}
use Rattle.registers.specs.Loading.{nine_words, too_short}
use Rattle.registers.specs.declared.Words.{Words}
use Rattle.signals.specs.Clock.{level, data_word, in_sync, shows_pixel, clock_of, clock_at}
use Rattle.signals.specs.Parts.{part_at, line_part, clock_part}
use Rattle.signals.specs.Pixel.{in_row, spot_of, spot_at, pixel_clock}
use Rattle.signals.specs.declared.clock.Clock.{Clock}
use Rattle.scanout.specs.declared.step.Shown.{Shown}
use Rattle.scanout.specs.Calls.{Run, begun, spot_colour, next_colour, judge_step, step, count_of, store, store_next, drawn, judge_run, run, change}
use Rattle.scanout.specs.Lists.{a_step, a_run, a_change, refusal, next, clocks, pending_after, picture_after, Calls, nothing, ◌then◌, final, taken, last_viewport, picture_left, calls_before, frame_viewport}
use Rattle.scanout.specs.Refusals.{bank_differs, past_frame, judge_scan, judge_change}
use Rattle.scanout.specs.State.{shown_words, advance, after}
use Rattle.scanout.specs.declared.state.State.{State}
use Rattle.scanout.specs.declared.state.Viewport.{Viewport}

-- ---- what the examples unfold, by name: a definition's line, and the lines that it names

-- what a step is judged by
unfoldable judgement : State → Lent → ℕ
unfolding judge_step judge_scan lowest lower reserved_bit stn not_tft no_such_mode outside_modes swaps_illegal stored_bits panel_bits panel_width row_size_wrong
judgement s l = judge_step s l

-- with the viewport's place and what is lent
unfoldable accepted-view : State → Lent → ℕ
unfolding judgement end_differs past_bank row_offset outside_memory word_outside row_address some_below video_off palette_wrong bank_differs past_frame
accepted-view s l = judgement s l

-- the levels of a clock
unfoldable pins : Words → ℕ → ℕ → Clock
unfolding line_clocks frame_lines frame_clocks clock_of clock_at level data_word in_sync shows_pixel part_at line_part clock_part
pins w position colour = clock_at w position colour

-- the colour of a clock
unfoldable pixel : State → Lent → ℕ
unfolding in_row spot_of spot_at spot_colour next_colour shown_words colour row_colour stored_pixel format cut24 shown first_word Order.in_order
pixel s l = next_colour s l

-- a step
unfoldable steps : State → Lent → Answer Shown
unfolding accepted-view pins pixel Order.pixel_bits step judged advance next or_else
steps s l = step s l

-- a run
unfoldable runs : State → Lent → ℕ → List ℕ → Run
unfolding steps run judge_run too_short outcome count_of drawn store store_next after
runs s l n picture = run s l n picture

-- a list of calls
unfoldable lists : State → Calls → State
unfolding runs final taken clocks last_viewport pending_after picture_left picture_after calls_before frame_viewport refusal number_of change judge_change
lists s calls = final s calls

-- ---- T1: one column, two rows, at 24 bits; every part of a line and of a frame but the two rows is 1 long

-- its words, with LCDCON5
abbrev t1 : ℕ → List ℕ
t1 lcdcon5 = 0x7B ∷ 0x4000 ∷ 0 ∷ 0 ∷ lcdcon5 ∷ 0x18000000 ∷ 4 ∷ 2 ∷ 0 ∷ []

abbrev began : ℕ → State
began lcdcon5 = begun (screen (nine_words (t1 lcdcon5)) 0x30000000)

abbrev lent : Lent
lent = record { memory = 0x00112233 ∷ 0x00AABBCC ∷ []; palette = replicate 256 0 }

-- VSYNC, HSYNC, VDEN and the data word: of one step, then of n steps in a row
abbrev levels : Answer Shown → List ℕ
levels (accepted k) = k.clock.vsync ∷ k.clock.hsync ∷ k.clock.vden ∷ k.clock.vd ∷ []
levels (refused n) = []

abbrev clocks_of : ℕ → State → List ℕ
clocks_of zero s = []
clocks_of (suc n) s = levels (step s lent) ++ clocks_of n (next s (a_step lent))

-- a line of four clocks, HSYNC in the first, a pixel (or nothing) at the third
abbrev line : ℕ → ℕ → ℕ → List ℕ
line vsync vden vd =
    vsync ∷ 1 ∷ 0 ∷ 0 ∷ vsync ∷ 0 ∷ 0 ∷ 0 ∷ vsync ∷ 0 ∷ vden ∷ vd ∷ vsync ∷ 0 ∷ 0 ∷ 0 ∷ []

-- the same with the levels of HSYNC and VDEN inverted and the data complemented
abbrev exchanged : ℕ → ℕ → ℕ → List ℕ
exchanged vsync vden vd =
    vsync ∷ 0 ∷ 1 ∷ 0xFFFFFF ∷ vsync ∷ 1 ∷ 1 ∷ 0xFFFFFF ∷ vsync ∷ 1 ∷ vden ∷ vd ∷ vsync ∷ 1 ∷ 1 ∷ 0xFFFFFF ∷ []

-- a frame: a line of sync, one of back porch, two with a pixel, one of front porch; then with INVVFRAME, INVVLINE, INVVDEN and INVVD
pub record T1Scan : Type 0 where
  pub frame : clocks_of 20 (began 0)
      ≡ line 1 0 0 ++ line 0 0 0 ++ line 0 1 0x112233 ++ line 0 1 0xAABBCC ++ line 0 0 0
  pub inverted : clocks_of 20 (began 0x3C0)
      ≡ exchanged 0 1 0xFFFFFF ++ exchanged 1 1 0xFFFFFF ++ exchanged 1 0 0xEEDDCC ++ exchanged 1 0 0x554433
      ++ exchanged 1 1 0xFFFFFF
  -- a run of the whole frame; of its clocks up to the first pixel's; and of the rest, where more are asked for
  pub whole : run (began 0) lent 20 (7 ∷ 8 ∷ 9 ∷ [])
      ≡ record {
        answer = accepted (record { count = 20; next = began 0 });
        left = 0x112233 ∷ 0xAABBCC ∷ 9 ∷ [];
      }
  pub front : run (began 0) lent 11 (7 ∷ 8 ∷ 9 ∷ [])
      ≡ record { answer = accepted (record { count = 11; next = after 11 (began 0) }); left = 0x112233 ∷ 8 ∷ 9 ∷ [] }
  pub back : run (after 11 (began 0)) lent 100 (7 ∷ 8 ∷ 9 ∷ [])
      ≡ record { answer = accepted (record { count = 9; next = began 0 }); left = 7 ∷ 0xAABBCC ∷ 9 ∷ [] }

pub t1-scan : T1Scan
unfolding runs
t1-scan = record { frame = refl; inverted = refl; whole = refl; front = refl; back = refl }

-- ---- the same panel with a third word of memory, and a viewport one row further on, brought in mid-frame

abbrev three : Lent
three = record { memory = 0x00112233 ∷ 0x00AABBCC ∷ 0x00445566 ∷ []; palette = replicate 256 0 }

abbrev further : Viewport
further = record { lcdsaddr1 = 0x18000002; lcdsaddr2 = 6 }

-- one picture lent to all runs; the last call asks for a viewport in another bank, whose rows are not lent: 8 is lower than 13
abbrev moving : Calls
moving =
    nothing
    then a_run three 5 (7 ∷ 8 ∷ [])
    then a_change three.memory further
    then a_run three 100 (7 ∷ 8 ∷ [])
    then a_run three 11 (0x112233 ∷ 0xAABBCC ∷ [])
    then a_change three.memory (record { lcdsaddr1 = 0x18200002; lcdsaddr2 = 6 })

pub record T1Moved : Type 0 where
  pub first-view : frame_viewport (began 0) moving 0 ≡ record { lcdsaddr1 = 0x18000000; lcdsaddr2 = 4 }
  pub second-view : frame_viewport (began 0) moving 1 ≡ further
  -- 5 clocks, the 15 that are left, and 11 of the next frame; its clock 10 is the first pixel's
  pub clocks-taken : taken (began 0) moving ≡ 31
  pub left : picture_left (began 0) (7 ∷ 8 ∷ []) moving ≡ 0xAABBCC ∷ 0xAABBCC ∷ []
  pub position : (final (began 0) moving).position ≡ 11
  pub refused : refusal (final (began 0) moving) (a_change three.memory (record { lcdsaddr1 = 0x18200002; lcdsaddr2 = 6 })) ≡ 8

pub t1-moved : T1Moved
unfolding runs final taken clocks last_viewport pending_after picture_left picture_after calls_before frame_viewport refusal number_of change judge_change
t1-moved =
    record {
      first-view = refl;
      second-view = refl;
      clocks-taken = refl;
      left = refl;
      position = refl;
      refused = refl;
    }

-- ---- T8: 4 lines come before the first row, 30 clocks before the first column, and a line has 280

abbrev t8 : List ℕ
t8 = 0x479 ∷ 0x014FC041 ∷ 0x0098EF09 ∷ 0x9 ∷ 0xB09 ∷ 0x18000000 ∷ 0x12C00 ∷ 0xF0 ∷ 0 ∷ []

pub record T8Clocks : Type 0 where
  pub first : pixel_clock (timing (nine_words t8)) 0 0 ≡ 1150
  pub last : pixel_clock (timing (nine_words t8)) 319 239 ≡ 90709
  pub shows_first : spot_at (timing (nine_words t8)) 1150 ≡ Some (record { row = 0; column = 0 })
  pub before-first : spot_at (timing (nine_words t8)) 1149 ≡ None
  pub shows-last : spot_at (timing (nine_words t8)) 90709 ≡ Some (record { row = 319; column = 239 })
  pub after_last : spot_at (timing (nine_words t8)) 90710 ≡ None

pub t8-clocks : T8Clocks
unfolding pixel_clock line_clocks part_at line_part clock_part in_row spot_of spot_at
t8-clocks =
    record { first = refl; last = refl; shows_first = refl; before-first = refl; shows-last = refl; after_last = refl }
