-- `drawing::picture::draw_stretch` meets its contract.
use mathlib.Core.List.{List}
use mathlib.Core.Path.{◌≡◌, refl, ap, ◌∙◌}
use Prim.Native.Nat.{ℕ, zero, suc, ◌<◌, ◌+◌, ◌≤◌}
use native.Mathlib.Omega.{arith}
use borrow.Rule.Slice.PartMut.{put_mid}
use lib.ListN.{length, take, drop}
use Rattle.laws.specs.Storing.{stores}
use Rattle.memory.specs.declared.Screen.{Screen}
use Rattle.drawing.specs.Colour.{Lent}
use Rattle.drawing.specs.Core.{Shows}
use Rattle.drawing.specs.Drawing.{fitting, pixels_stored, colour_in_order, draw_stretch}
use Rattle.drawing.proofs.Shown.{part-stored}
use Rattle.drawing.proofs.picture.draw_stretch.Goals as goal

-- a stretch of no pixels begins anywhere
moved : (g : ℕ → ℕ) (from first n : ℕ) (d : List ℕ) → (0 < n → from ≡ first) → stores g from n d ≡ stores g first n d
unfolding stores
moved g from first zero d e = refl
moved g from first (suc n) d e = ap (λ (k : ℕ). stores g k (suc n) d) (e (omega arith))

-- drawing that many is drawing the stretch
drawn : (s : Screen) (l : Lent) (first count from n : ℕ) (picture part : List ℕ) → Shows (λ k. colour_in_order s l (from + k)) part
    → length part ≡ length (take n (drop from picture)) → from + n ≤ length picture → (0 < n → from ≡ first)
    → n ≡ fitting s.words first count (length picture) → put_mid from n picture part ≡ draw_stretch s l first count picture
unfolding draw_stretch
drawn s l first count from n picture part shows size room begins fits =
    part-stored (λ k. colour_in_order s l (first + k)) _ n picture part shows (λ i h. ap (colour_in_order s l) (omega (arith, begins, h)))
    from size room
    ∙ moved (λ k. colour_in_order s l (first + k)) from first n picture begins
    ∙ ap (λ (k : ℕ). pixels_stored s l first k picture) fits

pub returns-then-n-lt8 : goal.returns-then-n-lt8
returns-then-n-lt8 c =
    drawn _ _ _ _ _ _ _ _ c.draw_few.ensures c.draw_few.auto.out (omega arith) (λ some. omega arith) (omega arith)

pub returns-then-by_rows : goal.returns-then-by_rows
returns-then-by_rows c =
    drawn _ _ _ _ _ _ _ _ c.draw_parts.ensures c.draw_parts.auto.out (omega arith) (λ some. omega arith) (omega arith)

pub returns-else-by_rows : goal.returns-else-by_rows
returns-else-by_rows c =
    drawn _ _ _ _ _ _ _ _ c.draw_few-else-by_rows.ensures c.draw_few-else-by_rows.auto.out (omega arith) (λ some. omega arith)
    (omega arith)
