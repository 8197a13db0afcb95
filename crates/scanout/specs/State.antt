-- The state of a scan (§7.1): the screen in force, which is nine words and a window start; the `pending` viewport (the waiting view); and
-- the position, the number of the next clock in its frame. A `Viewport` (a view) is LCDSADDR1 and LCDSADDR2.
-- Promises cite it, so a reader must believe it.
use Rattle.std.specs.Prelude.{cond, List, [], ◌∷◌, ◌++◌, ℕ, zero, suc, ◌+◌, ◌%◌, eqb, get_or}
use Rattle.panel.specs.Timing.{timing, frame_clocks}
use Rattle.registers.specs.Loading.{nine_words, word_entries}
use Rattle.registers.specs.declared.Words.{Words}
use Rattle.memory.specs.Memory.{screen}
use Rattle.memory.specs.declared.Screen.{Screen}
use Rattle.scanout.specs.declared.state.State.{State}
use Rattle.scanout.specs.declared.state.Viewport.{Viewport}

-- ---- in entries (§10.4)

-- as it is read: entries 0 to 8 the words in force, 9 the window start, 10 and 11 the pending LCDSADDR1 and LCDSADDR2, 12 the position
abbrev pub state_of : List ℕ → State
state_of scan =
    record {
      screen = screen (nine_words scan) (get_or scan 9 0);
      pending = record { lcdsaddr1 = get_or scan 10 0; lcdsaddr2 = get_or scan 11 0 };
      position = get_or scan 12 0;
    }

-- its entries, in the same order
abbrev pub entries_of : State → List ℕ
entries_of s =
    word_entries s.screen.words ++ (s.screen.window_start ∷ s.pending.lcdsaddr1 ∷ s.pending.lcdsaddr2 ∷ s.position ∷ [])

-- ---- what the next clock is shown with

-- the viewport in the words
abbrev pub viewport_of : Words → Viewport
viewport_of w = record { lcdsaddr1 = w.lcdsaddr1; lcdsaddr2 = w.lcdsaddr2 }

-- the words with another viewport in them
abbrev pub with_viewport : Words → Viewport → Words
with_viewport w v =
    record {
      lcdcon1 = w.lcdcon1;
      lcdcon2 = w.lcdcon2;
      lcdcon3 = w.lcdcon3;
      lcdcon4 = w.lcdcon4;
      lcdcon5 = w.lcdcon5;
      lcdsaddr1 = v.lcdsaddr1;
      lcdsaddr2 = v.lcdsaddr2;
      lcdsaddr3 = w.lcdsaddr3;
      tpal = w.tpal;
    }

-- clocks in a frame of this state: L × C (§6.3)
abbrev pub frame_of : State → ℕ
frame_of s = frame_clocks (timing s.screen.words)

-- the words that the next clock is shown with: clock 0 with the pending viewport, any other with the one in force (§7.6)
unfoldable pub shown_words : State → Words
shown_words s = cond (eqb s.position 0) (with_viewport s.screen.words s.pending) s.screen.words

-- the screen that it is shown with
abbrev pub shown_screen : State → Screen
shown_screen s = screen (shown_words s) s.screen.window_start

-- the state after one accepted step (§7.3): the screen that the clock was shown with is in force, the pending viewport stays pending,
-- and after a frame's last clock comes clock 0
unfoldable pub advance : State → State
advance s =
    record {
      screen = shown_screen s;
      pending = s.pending;
      position = (s.position + 1) % frame_of s;
    }

-- the state after n of them
unfoldable pub after : ℕ → State → State
after zero s = s
after (suc n) s = advance (after n s)
