-- The active clocks of a run are a stretch of the picture (§7.4, §5.7): what the clocks of one frame store one by one is what drawing the
-- pixels between two clocks, in reading order, stores.
use mathlib.Core.List.{List}
use mathlib.Core.Path.{◌≡◌, sym, ap, ap₂, ◌∙◌}
use Prim.Native.Nat.{ℕ, zero, suc, ◌+◌, ◌-◌, ◌*◌, ◌/◌, ◌%◌, ◌<◌, ◌≤◌}
use native.Mathlib.Omega.{arith}
use lib.Arith.{digits_div, digits_mod}
use lib.ListN.{set}
use Rattle.laws.specs.Storing.{stores}
use Rattle.drawing.proofs.Numbers.{in_order}
use Rattle.memory.specs.Memory.{screen}
use Rattle.memory.specs.declared.Screen.{Screen}
use Rattle.drawing.specs.Colour.{Lent, colour}
use Rattle.drawing.specs.Drawing.{colour_in_order}
use Rattle.panel.specs.Geometry.{width}
use Rattle.panel.specs.Timing.{Timing, timing}
use Rattle.registers.specs.declared.Words.{Words}
use Rattle.signals.proofs.Positions.{wide, At, Shows, pixel, blank, shows}
use Rattle.signals.proofs.ReadingOrder.{before-pixel, after-pixel, after-blank, further}
use Rattle.signals.specs.Pixel.{spot_at, pixels_before}
use Rattle.panel.specs.declared.geometry.Place.{Place}
use Rattle.std.specs.Prelude.{Option, Some}
use Rattle.scanout.specs.Calls.{spot_colour, next_colour, store, store_next, drawn}
use Rattle.scanout.specs.State.{frame_of, shown_words, after, shown_screen}
use Rattle.scanout.specs.declared.state.State.{State}
use Rattle.scanout.proofs.Views.{shown-alike, shown-after, position-after, window-start-after, alike-after}

-- what a clock stores, by the timing, its position and the screen that it is shown with
store_at : Timing → ℕ → Screen → Lent → List ℕ → List ℕ
store_at t p shown l picture = store (wide t) (spot_at t p) (spot_colour shown l (spot_at t p)) picture

module _ (s : State) (l : Lent) where
  -- a later clock of the frame stores by its own position, and by the words of the first
  stores-later : (n : ℕ) (picture : List ℕ) → s.position + n < frame_of s
      → store_next (after n s) l picture
      ≡ store_at (timing s.screen.words) (s.position + n) (shown_screen s) l picture
  unfolding store_next next_colour store_at
  stores-later n picture room =
      ap (λ (t : Timing). store_at t (after n s).position (shown_screen (after n s)) l picture) (ap timing (alike-after s n))
      ∙ ap₂ (λ (p : ℕ) (w : Words). store_at (timing s.screen.words) p (screen w (after n s).screen.window_start) l picture)
      (position-after s n room) (shown-after s n room)
      ∙ ap (λ (k : ℕ). store_at (timing s.screen.words) (s.position + n) (screen (shown_words s) k) l picture) (window-start-after s n)

  -- the first pixel of the stretch, how many there are up to a clock, and their colours
  abbrev pub first : ℕ
  first = pixels_before (timing s.screen.words) s.position

  abbrev pub many : ℕ → ℕ
  many n = pixels_before (timing s.screen.words) (s.position + n) - first

  abbrev pub colours : ℕ → ℕ
  colours k = colour_in_order (shown_screen s) l (first + k)

  pub same-colour : (i r c : ℕ) → i ≡ r * width s.screen.words + c → c < width s.screen.words
      → colour (shown_screen s) l r c
      ≡ colour_in_order (shown_screen s) l i
  same-colour i r c e h =
      in_order (shown_screen s) l i r c
      (ap₂ (λ (a b : ℕ). a / b) e (ap width (shown-alike s)) ∙ digits_div r h)
      (ap₂ (λ (a b : ℕ). a % b) e (ap width (shown-alike s)) ∙ digits_mod r h)

  -- one clock more
  one-clock : (n : ℕ) (picture : List ℕ)
      → store_at (timing s.screen.words) (s.position + n) (shown_screen s) l (stores colours first (many n) picture)
      ≡ stores colours first (many (suc n)) picture
  unfolding store_at store spot_colour stores
  one-clock n picture = go (shows (timing s.screen.words) (s.position + n))
    where
      t : Timing
      t = timing s.screen.words

      p : ℕ
      p = s.position + n

      here : List ℕ
      here = stores colours first (many n) picture

      next : p + 1 ≡ s.position + suc n
      next = omega arith

      later : first ≤ pixels_before t p
      later = further t s.position p (omega arith)

      at : Option Place → List ℕ
      at spot = store (wide t) spot (spot_colour (shown_screen s) l spot) here

      pixel-stored : (r c : ℕ) → At t p r c → at (Some (record { row = r; column = c })) ≡ stores colours first (many (suc n)) picture
      pixel-stored r c a =
          ap₂ (set here) place (same-colour (first + many n) r c (sym place) a.column)
          ∙ ap (λ (k : ℕ). stores colours first k picture) one_more
        where
          before : pixels_before t p ≡ r * wide t + c
          before = before-pixel t p r c a

          more : pixels_before t (s.position + suc n) ≡ r * wide t + c + 1
          more = ap (pixels_before t) (sym next) ∙ after-pixel t p r c a

          place : r * wide t + c ≡ first + many n
          place = omega (arith, before, later)

          one_more : suc (many n) ≡ many (suc n)
          one_more = omega (arith, more, before, later)

      go : Shows t p → at (spot_at t p) ≡ stores colours first (many (suc n)) picture
      go (pixel r c a e) = ap at e ∙ pixel-stored r c a
      go (blank none e) =
          ap at e
          ∙ ap (λ (k : ℕ). stores colours first (k - first) picture)
          (sym (after-blank t p none) ∙ ap (pixels_before t) next)

  -- n clocks of one frame
  pub drawn-is-stretch : (n : ℕ) (picture : List ℕ) → s.position + n ≤ frame_of s
      → drawn n s l picture ≡ stores colours first (many n) picture
  unfolding drawn stores
  drawn-is-stretch zero picture room =
      let here : s.position ≡ s.position + 0 = omega arith in
      let none : 0 ≡ many 0 = omega (arith, ap (pixels_before (timing s.screen.words)) here) in
      ap (λ (k : ℕ). stores colours first k picture) none
  drawn-is-stretch (suc n) picture room =
      ap (store_next (after n s) l) (drawn-is-stretch n picture (omega arith))
      ∙ stores-later n (stores colours first (many n) picture) (omega arith)
      ∙ one-clock n picture
