-- The bytes of a row (§5.10) by the words that hold its pixels.
use mathlib.Core.Bool.{Bool, false, cond}
use mathlib.Core.List.{List}
use mathlib.Core.Path.{◌≡◌, sym, ap, ap₂, ◌∙◌}
use Prim.Native.Nat.{ℕ, ◌+◌, ◌-◌, ◌*◌, ◌/◌, ◌%◌, ◌^◌, ◌<◌}
use native.Mathlib.Omega.{arith}
use lib.Dec.{eqb}
use lib.ListN.{get_or}
use Rattle.pixels.specs.Order.{in_order, pixel_bits, stored_pixel}
use Rattle.pixels.proofs.PixelOrder.{pixel-bits-lt}
use Rattle.pixels.proofs.StoredPixels.{word-pixel}
use Rattle.stn.specs.Core.{pattern, IsPatterns, lit_in}
use Rattle.stn.specs.Greys.{duty, lit, lit_bits, bit, packed, row_byte}
use Rattle.stn.proofs.Duties.{lit-by-420}
use Rattle.stn.proofs.Packing.{packed-same, packed-bits, bit-of-packed}

-- ---- phases alike

-- sums of which one part is the same modulo 420
alike-on : (x y k : ℕ) → x % 420 ≡ y % 420 → (x + k) % 420 ≡ (y + k) % 420
alike-on x y k e = omega arith

pub bits-alike : (bits v x y : ℕ) → x % 420 ≡ y % 420 → lit_bits bits v x ≡ lit_bits bits v y
unfolding lit_bits
bits-alike bits v x y e = ap (cond (eqb bits 1) (eqb v 1)) (lit-by-420 v x y e)

pub row-byte-alike : (bits : ℕ) (bswp : Bool) (memory : List ℕ) (base x y j : ℕ) → x % 420 ≡ y % 420
    → row_byte bits bswp memory base x j ≡ row_byte bits bswp memory base y j
unfolding row_byte
row-byte-alike bits bswp memory base x y j e =
    packed-same _ _ 8
    (λ k h.
    let c = 8 * j + k in
    bits-alike bits (stored_pixel bits bswp false memory base c) (x + c) (y + c) (alike-on x y c e))

-- ---- 16 greys: byte j is word j

-- bit v of a pattern
pub bit-of-pattern : (phase level : ℕ) → level < 16 → pattern phase / 2 ^ level % 2 ≡ bit (lit (duty level) phase)
unfolding pattern
bit-of-pattern phase level h =
    ap (λ (n : ℕ). packed (λ i. lit (duty (15 - i)) phase) 16 / 2 ^ n % 2) {y = 15 - (15 - level)} (omega arith)
    ∙ bit-of-packed (λ i. lit (duty (15 - i)) phase) 16 (15 - level) (omega arith)
    ∙ ap (λ (n : ℕ). bit (lit (duty n) phase)) {x = 15 - (15 - level)} (omega arith)

-- a pixel's bit, looked up in the table
pub bit-looked-up : (table : List ℕ) → IsPatterns table → (x phase k v : ℕ) → phase < 420 → k < 8 → v ≡ pixel_bits 4 x k
    → get_or table (phase + k) 0 / 2 ^ v % 2 ≡ bit (lit_in x phase k)
bit-looked-up table is x phase k v h l e =
    ap₂ (λ (p n : ℕ). p / 2 ^ n % 2) (is (phase + k) (omega arith)) e
    ∙ bit-of-pattern (phase + k) (pixel_bits 4 x k) (pixel-bits-lt 4 x k)

-- x is the row's word j in order, p the phase of its first pixel modulo 420
pub byte-of-greys : (bswp : Bool) (words : List ℕ) (phase j x p : ℕ) → x ≡ in_order bswp false (get_or words j 0)
    → p % 420 ≡ (phase + 8 * j) % 420
    → packed (lit_in x p) 8 ≡ row_byte 4 bswp words 0 phase j
unfolding row_byte lit_bits
byte-of-greys bswp words phase j x p e f =
    packed-same _ _ 8
    (λ k h.
    lit-by-420 (pixel_bits 4 x k) (p + k) (phase + (8 * j + k)) (omega arith)
    ∙ ap (λ (v : ℕ). lit (duty v) (phase + (8 * j + k)))
    (ap (λ (y : ℕ). pixel_bits 4 y k) (e ∙ ap (λ (i : ℕ). in_order bswp false (get_or words i 0)) (omega arith))
    ∙ sym (word-pixel 4 bswp false words 0 j k h)
    ∙ ap (stored_pixel 4 bswp false words 0) (omega arith)))

-- ---- mono: a word is four bytes

pub byte-of-mono : (bswp : Bool) (words : List ℕ) (phase i b x : ℕ) → b < 4
    → x ≡ in_order bswp false (get_or words i 0)
    → pixel_bits 8 x b ≡ row_byte 1 bswp words 0 phase (i * 4 + b)
unfolding row_byte lit_bits pixel_bits
byte-of-mono bswp words phase i b x h e =
    ap (λ (n : ℕ). x / 2 ^ n % 2 ^ 8) {y = 32 - 8 * b - 8} (omega arith)
    ∙ sym (packed-bits x (32 - 8 * b) 8 (omega arith))
    ∙ packed-same _ _ 8
    (λ k l.
    ap (λ (v : ℕ). eqb v 1)
    (ap (λ (n : ℕ). x / 2 ^ n % 2) {y = 32 - 1 * (8 * b + k + 1)} (omega arith)
    ∙ ap (λ (y : ℕ). pixel_bits 1 y (8 * b + k)) (e ∙ ap (λ (n : ℕ). in_order bswp false (get_or words n 0)) (omega arith))
    ∙ sym (word-pixel 1 bswp false words 0 i (8 * b + k) (omega arith))
    ∙ ap (stored_pixel 1 bswp false words 0) (omega arith)))
