-- What an accepted run draws (§7.4) is a stretch of the picture, as `drawing` draws it (§5.7).
use mathlib.Core.List.{List}
use mathlib.Core.Path.{◌≡◌, sym, ap, ◌∙◌}
use Prim.Native.Nat.{ℕ, ◌+◌, ◌≤◌}
use native.Mathlib.Nat.{mul_comm}
use native.Mathlib.Omega.{arith}
use lib.ListN.{length}
use Rattle.laws.specs.Storing.{stores}
use Rattle.drawing.specs.Colour.{Lent}
use Rattle.drawing.specs.Drawing.{pixels, fitting, draw_stretch}
use Rattle.panel.specs.Geometry.{width, height}
use Rattle.panel.specs.Timing.{timing}
use Rattle.registers.specs.declared.Words.{Words}
use Rattle.signals.proofs.ReadingOrder.{further, at-most-all}
use Rattle.scanout.specs.Calls.{drawn}
use Rattle.scanout.specs.State.{frame_of, shown_words, shown_screen}
use Rattle.scanout.specs.declared.state.State.{State}
use Rattle.scanout.proofs.Stretch.{first, many, colours, drawn-is-stretch}
use Rattle.scanout.proofs.Views.{shown-alike}

module _ (s : State) (l : Lent) (n : ℕ) (picture : List ℕ) (room : s.position + n ≤ frame_of s)
    (enough : pixels s.screen.words ≤ length picture) where
  -- the stretch lies on the panel, and the picture has its entries
  fits : fitting (shown_words s) (first s l) (many s l n) (length picture) ≡ many s l n
  fits =
      ap (λ (w : Words). fitting w (first s l) (many s l n) (length picture)) (shown-alike s)
      ∙ omega (
        arith,
        enough,
        further (timing s.screen.words) s.position (s.position + n) (omega arith),
        at-most-all (timing s.screen.words) (s.position + n),
        mul_comm (width s.screen.words) (height s.screen.words),
      )

  pub run-drawn : draw_stretch (shown_screen s) l (first s l) (many s l n) picture ≡ drawn n s l picture
  unfolding draw_stretch
  run-drawn =
      ap (λ (k : ℕ). stores (colours s l) (first s l) k picture) fits
      ∙ sym (drawn-is-stretch s l n picture room)
