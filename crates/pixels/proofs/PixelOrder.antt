-- Laws of pixel order (§4.1 to §4.3): pixels of a word, by shifts too, and words with a swap.
use mathlib.Core.Bool.{Bool, true, false}
use mathlib.Core.Path.{◌≡◌, sym, ap, ap₂, ◌∙◌}
use Prim.Native.Nat.{ℕ, ◌+◌, ◌-◌, ◌*◌, ◌/◌, ◌%◌, ◌^◌, ◌<◌, ◌≤◌}
use native.Mathlib.Nat.{mod-lt, mul-add}
use native.Mathlib.Omega.{arith}
use lib.Pow.{pow_pos, high, field, shl-shr, shr-shr}
use Rattle.pixels.specs.Order.{reverse_bytes, exchange_halves, in_order, pixel_bits}

-- ---- a pixel of a word

pub pixel-bits-lt : (s x k : ℕ) → pixel_bits s x k < 2 ^ s
unfolding pixel_bits
pixel-bits-lt s x k = mod-lt (x / 2 ^ (32 - s * (k + 1))) (pow_pos s)

-- at 32 stored bits a word is its only pixel
pub whole_word : (x : ℕ) → x < 2 ^ 32 → pixel_bits 32 x 0 ≡ x
unfolding pixel_bits
whole_word x h = omega arith

-- a number moved up by a bits, then down by a + b, with what passes the top lost
up-and-down : (x s a b : ℕ) → (x * 2 ^ a) % 2 ^ (s + (a + b)) / 2 ^ (a + b) ≡ x / 2 ^ b % 2 ^ s
up-and-down x s a b =
    field (x * 2 ^ a) s (a + b)
    ∙ ap (λ (y : ℕ). y % 2 ^ s) (sym (shr-shr (x * 2 ^ a) a b))
    ∙ ap (λ (y : ℕ). y / 2 ^ b % 2 ^ s) (shl-shr x a)

-- the s bits below the `past` highest, by two shifts of the word: up, to drop what stands above them, and down to bit 0
pub cut-by-shifts : (s past x : ℕ) → past + s ≤ 32
    → (x * 2 ^ past) % 2 ^ 32 / 2 ^ (32 - s) ≡ x / 2 ^ (32 - (past + s)) % 2 ^ s
cut-by-shifts s past x fits =
    let left = 32 - (past + s) in
    let whole : ◌≡◌ {A = ℕ} 32 (s + (past + left)) = omega arith in
    let down : 32 - s ≡ past + left = omega arith in
    ap₂ (λ (n m : ℕ). (x * 2 ^ past) % 2 ^ n / 2 ^ m) whole down ∙ up-and-down x s past left

-- pixel k lies below the s * k highest
pub pixel-past : (s k past x : ℕ) → past ≡ s * k → x / 2 ^ (32 - (past + s)) % 2 ^ s ≡ pixel_bits s x k
unfolding pixel_bits
pixel-past s k past x e =
    let size : s * (k + 1) ≡ s * k + s * 1 = mul-add s k 1 in
    ap (λ (n : ℕ). x / 2 ^ (32 - n) % 2 ^ s) (omega arith)

-- ---- a word with its halves exchanged

pub first-half-swapped : (x : ℕ) → exchange_halves x / 2 ^ 16 ≡ pixel_bits 16 (exchange_halves x) 0
unfolding exchange_halves pixel_bits
first-half-swapped x = omega arith

pub second-half-swapped : (x : ℕ) → exchange_halves x % 2 ^ 16 ≡ pixel_bits 16 (exchange_halves x) 1
unfolding exchange_halves pixel_bits
second-half-swapped x = omega arith

-- its upper half was the second pixel, its lower the first
pub first-half-was-second : (x : ℕ) → exchange_halves x / 2 ^ 16 ≡ pixel_bits 16 x 1
unfolding exchange_halves pixel_bits
first-half-was-second x = high (x % 2 ^ 16) 16 (omega arith) ∙ omega arith

pub second-half-was-first : (x : ℕ) → exchange_halves x % 2 ^ 16 ≡ pixel_bits 16 x 0
unfolding exchange_halves pixel_bits
second-half-was-first x = omega arith

-- ---- a word in order is a word

pub in-order-lt : (bswp hwswp : Bool) (x : ℕ) → x < 2 ^ 32 → in_order bswp hwswp x < 2 ^ 32
unfolding in_order reverse_bytes exchange_halves
in-order-lt true hwswp x h = omega arith
in-order-lt false true x h = omega arith
in-order-lt false false x h = h
