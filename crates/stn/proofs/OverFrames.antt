-- The claim over several frames (§5.8, §5.9): a pixel's bit in the bytes that a drawing left, and in how many frames it is 1.
use mathlib.Core.Bool.{Bool, true, false}
use mathlib.Core.List.{List}
use mathlib.Core.Path.{◌≡◌, refl, sym, ap, ◌∙◌}
use Prim.Native.Nat.{ℕ, zero, suc, ◌+◌, ◌-◌, ◌*◌, ◌/◌, ◌%◌, ◌^◌, ◌<◌}
use native.Mathlib.Nat.{zero-add}
use native.Mathlib.Omega.{arith}
use lib.Dec.{eqb}
use lib.ListN.{length, get_or}
use Rattle.laws.specs.Answers.{Outcome, leaves, outcome}
use Rattle.laws.specs.Storing.{stores}
use Rattle.laws.specs.StoringLaws.{entry-stored}
use Rattle.memory.specs.Memory.{first_word}
use Rattle.memory.specs.declared.Screen.{Screen}
use Rattle.panel.specs.Geometry.{stn_bits}
use Rattle.pixels.specs.Order.{stored_pixel}
use Rattle.registers.specs.Fields.{bppmode, bswp}
use Rattle.stn.specs.Drawing.{row_bytes, frame_bytes, stn_byte, byte_in, judge_stn_drawing, draw_stn}
use Rattle.stn.specs.Greys.{duty, lit, lit_bits, bit, row_byte}
use Rattle.stn.specs.OverFrames.{Pixel, bit_of, GreyLitNOfD, MonoAsStored}
use Rattle.stn.proofs.Counting.{count_same, lit-n-of-d}
use Rattle.stn.proofs.FrameBytes.{row-in-frame, byte-of-frame}
use Rattle.stn.proofs.Judged.{bytes-lent}
use Rattle.stn.proofs.Packing.{bit-of-packed}

-- a drawing that is done was judged 0, and wrote
done : (n : ℕ) (was written left : List ℕ) → outcome n was written ≡ leaves 0 left → (n ≡ 0) × (left ≡ written)
unfolding outcome
done zero was written left e = (refl, sym (ap (λ (o : Outcome). o.left) e))
done (suc n) was written left e = absurd (omega (arith, ap (λ (o : Outcome). o.refusal) e))

-- ---- one pixel of one frame

module _ (s : Screen) (memory : List ℕ) (f : ℕ) (was left : List ℕ) (d : draw_stn s memory f was ≡ leaves 0 left) (r c mode v : ℕ)
    (p : Pixel s memory r c mode v) where
  wrote : (judge_stn_drawing s (length memory) (length was) ≡ 0) × (left ≡ stores (stn_byte s memory f) 0 (frame_bytes s.words) was)
  unfolding draw_stn
  wrote =
      done (judge_stn_drawing s (length memory) (length was)) was (stores (stn_byte s memory f) 0 (frame_bytes s.words) was) left d

  byte-lt : c / 8 < row_bytes s.words
  unfolding row_bytes
  byte-lt = omega (arith, p.column)

  its-byte : get_or left (r * row_bytes s.words + c / 8) 0 ≡ byte_in s memory f r (c / 8)
  its-byte =
      let i = r * row_bytes s.words + c / 8 in
      ap (λ (l : List ℕ). get_or l i 0) wrote.1
      ∙ ap (λ (k : ℕ). get_or (stores (stn_byte s memory f) 0 (frame_bytes s.words) was) k 0) (sym (zero-add i))
      ∙ entry-stored (stn_byte s memory f) 0 (frame_bytes s.words) was i
      (omega (arith, bytes-lent s (length memory) (length was) wrote.0))
      (omega (arith, byte-lt, row-in-frame s.words r p.row))
      ∙ byte-of-frame s memory f r (c / 8) byte-lt

  -- column k of the row, by its mode
  abbrev shows : ℕ → ℕ → Bool
  shows m k = lit_bits (stn_bits m) (stored_pixel (stn_bits m) (eqb (bswp s.words) 1) false memory (first_word s r) k) (f + r + k)

  -- its bit is 1 where it is lit
  pub bit-lit : bit_of s.words left r c ≡ bit (lit_bits (stn_bits mode) v (f + r + c))
  unfolding bit_of byte_in row_byte
  bit-lit =
      ap (λ (b : ℕ). b / 2 ^ (7 - c % 8) % 2) its-byte
      ∙ bit-of-packed (λ k. shows (bppmode s.words) (8 * (c / 8) + k)) 8 (c % 8) (omega arith)
      ∙ ap (λ (k : ℕ). bit (shows (bppmode s.words) k)) {y = c} (omega arith)
      ∙ ap (λ (m : ℕ). bit (shows m c)) p.in-mode
      ∙ ap (λ (x : ℕ). bit (lit_bits (stn_bits mode) x (f + r + c))) p.stored

  -- as a test
  pub test-lit : eqb (bit_of s.words left r c) 1 ≡ lit_bits (stn_bits mode) v (f + r + c)
  test-lit = ap (λ (n : ℕ). eqb n 1) bit-lit ∙ is-1 (lit_bits (stn_bits mode) v (f + r + c))
    where
      is-1 : (b : Bool) → eqb (bit b) 1 ≡ b
      is-1 true = refl
      is-1 false = refl

-- ---- over several frames

-- of a pixel that keeps its grey level, n of any d frames in a row are lit
pub grey-lit-n-of-d : GreyLitNOfD
unfolding stn_bits lit_bits
grey-lit-n-of-d f r c level frames same =
    count_same (duty level).d _ (λ i. lit (duty level) (f + r + c + i))
    (λ i h.
    test-lit (frames.screen i) (frames.memory i) (f + i) (frames.was i) (frames.left i) (frames.drawn i h) r c 2 level (same i h)
    ∙ ap (lit (duty level)) (omega arith))
    ∙ lit-n-of-d level (f + r + c)

-- a mono pixel is lit where it is 1
pub mono-as-stored : MonoAsStored
unfolding stn_bits lit_bits
mono-as-stored f n r c v frames i h p =
    test-lit (frames.screen i) (frames.memory i) (f + i) (frames.was i) (frames.left i) (frames.drawn i h) r c 0 v p
