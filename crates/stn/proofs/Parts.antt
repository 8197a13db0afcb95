-- A part of a slice: what a slice holds after a part of it was stored to, and what the words of a row show that are lent alone.
use Rattle.std.specs.Prelude.{Bool, true, false, List, ◌≡◌, ℕ, ◌+◌, ◌*◌, ◌/◌, ◌%◌, ◌<◌, ◌≤◌, length, take, drop, get_or}
use Rattle.std.proofs.Common.{ap, ◌∙◌, arith}
use Rattle.std.specs.List.{between}
use Rattle.std.proofs.lemmas.List.Edits.{get_or-between}
use Rattle.std.proofs.lemmas.Grind.{common_steps}
use borrow.Rule.Slice.PartMut.{put_mid}
use Rattle.laws.specs.Storing.{stores}
use Rattle.laws.specs.StoringLaws.{entry-stored, left-length}
use Rattle.laws.proofs.PartLaws.{part-stored}
use Rattle.pixels.specs.Order.{in_order, pixel_bits, stored_pixel}
use Rattle.stn.specs.Core.{bits_in, bytes_of}
use Rattle.stn.specs.Greys.{lit_bits, row_byte}
use Rattle.stn.proofs.Packing.{packed-same}

-- another function stored all of it
pub part-filled : (g h : ℕ → ℕ) (at n : ℕ) (d part : List ℕ)
    → part ≡ stores g 0 (length (take n (drop at d))) (take n (drop at d)) → at + n ≤ length d
    → ((i : ℕ) → i < n → g i ≡ h i) → put_mid at n d part ≡ stores h at n d
part-filled g h at n d part e room same =
    let was = take n (drop at d) in
    let size : length was ≡ n = grind (arith, common_steps) in
    part-stored h at n d part room (left-length g 0 (length was) was part e ∙ size)
    (λ i l.
    ap (λ (s : List ℕ). get_or s i 0) e
    ∙ ap (λ (k : ℕ). get_or (stores g 0 (length was) was) k 0) {y = 0 + i} (omega arith)
    ∙ entry-stored g 0 (length was) was i (omega arith) (omega arith)
    ∙ same i l)

-- pixel c lies in one of the n words
word-of-pixel : (m : Bool) (n c : ℕ) → c < bytes_of m n * 8 → c / (32 / bits_in m) < n
word-of-pixel true n c h = omega arith
word-of-pixel false n c h = omega arith

-- n words that are lent alone show the same as in memory
pub same-alone : (m swap : Bool) (memory : List ℕ) (from n phase j : ℕ) → j < bytes_of m n
    → row_byte (bits_in m) swap (between from (from + n) memory) 0 phase j ≡ row_byte (bits_in m) swap memory from phase j
unfolding row_byte stored_pixel
same-alone m swap memory from n phase j h =
    packed-same _ _ 8
    (λ k l.
    let c = 8 * j + k in
    let per = 32 / bits_in m in
    let i = c / per in
    let inside = word-of-pixel m n c (omega arith) in
    ap (λ (x : ℕ). lit_bits (bits_in m) (pixel_bits (bits_in m) (in_order swap false x) (c % per)) (phase + c))
    (ap (λ (w : ℕ). get_or (between from (from + n) memory) w 0) {y = i} (omega arith)
    ∙ get_or-between memory from (from + n) i 0 (omega arith)))
