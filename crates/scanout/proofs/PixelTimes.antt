-- Clock numbers and pixels over all frames (§8.4): clock n is a pixel's clock by the formula exactly where its position, n modulo L × C,
-- shows that pixel; then the frame is n / (L × C).
use mathlib.Core.Path.{◌≡◌, sym, ap, ◌∙◌}
use Prim.Native.Nat.{ℕ, ◌+◌, ◌*◌, ◌/◌, ◌%◌, ◌<◌}
use native.Mathlib.Nat.{div-add-mod', add-mul}
use native.Mathlib.Omega.{arith}
use lib.Arith.{digits_div, digits_mod}
use Rattle.panel.specs.Geometry.{width}
use Rattle.panel.specs.Timing.{Timing, timing}
use Rattle.signals.proofs.Positions.{At, at-pixel-clock, at-is-pixel-clock, pixel-clock-in-frame}
use Rattle.signals.proofs.ReadingOrder.{in-clock-order}
use Rattle.signals.specs.Pixel.{pixel_clock}
use Rattle.scanout.specs.FrameByFrame.{InFrame, OnPanel, pixel_time, PixelAt}
use Rattle.scanout.specs.State.{frame_of}
use Rattle.scanout.specs.declared.state.State.{State}

module _ (s : State) where
  t : Timing
  t = timing s.screen.words

  inside : (r c : ℕ) → OnPanel s.screen.words r c → pixel_clock (timing s.screen.words) r c < frame_of s
  inside r c o = pixel-clock-in-frame (timing s.screen.words) r c o.row o.column

  pub pixel-in-frame : (f r c : ℕ) → OnPanel s.screen.words r c → InFrame s f (pixel_time s f r c)
  pixel-in-frame f r c o =
      record { from = omega arith; before = omega (arith, add-mul f 1 (frame_of s), inside r c o) }

  pub reading-order : (f r c r' c' : ℕ) → OnPanel s.screen.words r c → OnPanel s.screen.words r' c'
      → r * width s.screen.words + c < r' * width s.screen.words + c' → pixel_time s f r c < pixel_time s f r' c'
  reading-order f r c r' c' o o' l =
      omega (arith, in-clock-order (timing s.screen.words) r c r' c' o.row o.column o'.row o'.column l)

  module _ (n : ℕ) where
    pub its-frame : (x : PixelAt s n) → n / frame_of s ≡ x.frame
    its-frame x = ap (λ (k : ℕ). k / frame_of s) x.time ∙ digits_div x.frame (inside x.row x.column x.on-panel)

    its-position : (x : PixelAt s n) → n % frame_of s ≡ pixel_clock (timing s.screen.words) x.row x.column
    its-position x = ap (λ (k : ℕ). k % frame_of s) x.time ∙ digits_mod x.frame (inside x.row x.column x.on-panel)

    -- the position of a pixel's clock shows it
    pub pixel-position : (x : PixelAt s n) → At (timing s.screen.words) (n % frame_of s) x.row x.column
    pixel-position x =
        rw (its-position x) (at-pixel-clock (timing s.screen.words) x.row x.column x.on-panel.row x.on-panel.column)

    -- and a position that shows a pixel is that of its clock
    unfoldable pub position-pixel : (r c : ℕ) → At (timing s.screen.words) (n % frame_of s) r c → PixelAt s n
    position-pixel r c a =
        record {
          frame = n / frame_of s;
          row = r;
          column = c;
          on-panel = record { row = a.row; column = a.column };
          time =
              sym (div-add-mod' n (frame_of s))
              ∙ ap (λ (k : ℕ). n / frame_of s * frame_of s + k) (at-is-pixel-clock (timing s.screen.words) (n % frame_of s) r c a);
        }

    pub one-pixel : (x y : PixelAt s n) → (x.frame ≡ y.frame) × (x.row ≡ y.row) × (x.column ≡ y.column)
    one-pixel x y = (
      sym (its-frame x) ∙ its-frame y,
      omega (arith, (pixel-position x).line, (pixel-position y).line),
      omega (arith, (pixel-position x).clock, (pixel-position y).clock),
    )
