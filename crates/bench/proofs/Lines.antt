-- The bytes of a row's line by column.
use mathlib.Core.List.{List}
use mathlib.Core.Path.{◌≡◌, refl, ap, ap₂, ◌∙◌}
use Prim.Native.Nat.{ℕ, zero, suc, ◌+◌, ◌-◌, ◌*◌, ◌^◌, ◌<◌, ◌≤◌}
use native.Mathlib.Omega.{arith}
use borrow.Author.Tests.{lt-ltb}
use borrow.Rule.Slice.PartMut.{put_mid}
use lib.Dec.{eqb}
use lib.ListN.{length, get_or, take, drop}
use Rattle.std.proofs.lemmas.List.{length-take, length-drop}
use Rattle.laws.specs.Storing.{stores}
use Rattle.laws.specs.StoringLaws.{entry-stored, left-length}
use Rattle.drawing.specs.Core.{Shows}
use Rattle.drawing.proofs.Shown.{part-stored}
use Rattle.bench.specs.Output.{colour_text, parting, column_text, row_text}

-- four bits a digit
pub digit-place : (k : ℕ) → k < 6 → 2 ^ (20 - 4 * k) ≡ 16 ^ (5 - k)
digit-place zero h = refl
digit-place (suc zero) h = refl
digit-place (suc (suc zero)) h = refl
digit-place (suc (suc (suc zero))) h = refl
digit-place (suc (suc (suc (suc zero)))) h = refl
digit-place (suc (suc (suc (suc (suc zero))))) h = refl
digit-place (suc (suc (suc (suc (suc (suc k)))))) h = absurd (omega arith)

-- byte k of the seven of colour c, by its place in the line
pub column-place : (row : List ℕ) (c k : ℕ) → k < 7 → row_text row (7 * c + k) ≡ column_text row c k
unfolding row_text
column-place row c k h = ap₂ (column_text row) {y = c} (omega arith) (omega arith)

pub digit-in-line : (row : List ℕ) (c k : ℕ) → k < 6 → row_text row (7 * c + k) ≡ colour_text (get_or row c 0) k
unfolding column_text
digit-in-line row c k h = column-place row c k (omega arith) ∙ rw (lt-ltb k 6 h)

pub parting-in-line : (row : List ℕ) (c : ℕ) → row_text row (7 * c + 6) ≡ parting (eqb (c + 1) (length row))
unfolding column_text
parting-in-line row c = column-place row c 6 (omega arith)

-- ---- a part of the text that another function spelled

pub part-spelled : (g : ℕ → ℕ) (at n m : ℕ) (text part : List ℕ) → part ≡ stores g 0 m (take n (drop at text)) → n ≡ m
    → at + n ≤ length text → put_mid at n text part ≡ stores g at n text
part-spelled g at n m text part e many room =
    part-stored g g n text part shown (λ i h. refl) at size room
  where
    was : List ℕ
    was = take n (drop at text)

    size : length part ≡ length was
    size = left-length g 0 m was part e

    shown : Shows g part
    shown j h =
        ap (λ (s : List ℕ). get_or s j 0) e
        ∙ ap (λ (k : ℕ). get_or (stores g 0 m was) k 0) {y = 0 + j} (omega arith)
        ∙ entry-stored g 0 m was j
        (omega (arith, many, room, length-take n (drop at text), length-drop at text))
        (omega (arith, h, size, many, room, length-take n (drop at text), length-drop at text))
