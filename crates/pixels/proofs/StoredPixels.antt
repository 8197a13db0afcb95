-- Pixels of a row, word by word (§4.1).
use mathlib.Core.Bool.{Bool, true, false, not, cond}
use mathlib.Core.List.{List}
use mathlib.Core.Path.{◌≡◌, sym, ap, ap₂, ◌∙◌}
use Prim.Native.Nat.{ℕ, ◌+◌, ◌*◌, ◌/◌, ◌%◌, ◌^◌, ◌<◌, ◌≤◌}
use native.Mathlib.Nat.{mul-add}
use native.Mathlib.Omega.{arith}
use lib.Arith.{digits_div, digits_mod}
use lib.ListN.{get_or, take, drop}
use Rattle.std.proofs.lemmas.List.{get_or-take, get_or-drop}
use Rattle.laws.specs.ProductLaws.{product_le}
use Rattle.pixels.specs.Order.{in_order, exchange_halves, pixel_bits, stored_pixel}
use Rattle.pixels.proofs.PixelOrder.{pixel-bits-lt, whole_word, first-half-swapped, second-half-swapped, first-half-was-second, second-half-was-first}

-- a pixel of a word ends inside it
pub pixel-inside : (s k : ℕ) → s * (32 / s) ≡ 32 → k < 32 / s → s * k + s ≤ 32
pixel-inside s k whole h =
    let next : s * (k + 1) ≡ s * k + s * 1 = mul-add s k 1 in
    omega (arith, product_le s s (k + 1) (32 / s) (omega arith) (omega arith))

-- pixel k of the row's word i
pub word-pixel : (s : ℕ) (bswp hwswp : Bool) (memory : List ℕ) (base i k : ℕ) → k < 32 / s
    → stored_pixel s bswp hwswp memory base (i * (32 / s) + k) ≡ pixel_bits s (in_order bswp hwswp (get_or memory (base + i) 0)) k
unfolding stored_pixel
word-pixel s bswp hwswp memory base i k h =
    ap₂ (λ (q m : ℕ). pixel_bits s (in_order bswp hwswp (get_or memory (base + q) 0)) m) (digits_div i h) (digits_mod i h)

pub stored-lt : (s : ℕ) (bswp hwswp : Bool) (memory : List ℕ) (base c : ℕ) → stored_pixel s bswp hwswp memory base c < 2 ^ s
unfolding stored_pixel
stored-lt s bswp hwswp memory base c =
    pixel-bits-lt s (in_order bswp hwswp (get_or memory (base + c / (32 / s)) 0)) (c % (32 / s))

-- ---- some words by themselves

-- pixel k of word i
pub pixel-of-word : (s : ℕ) (bswp hwswp : Bool) (words : List ℕ) (i k : ℕ) → k < 32 / s
    → stored_pixel s bswp hwswp words 0 (i * (32 / s) + k) ≡ pixel_bits s (in_order bswp hwswp (get_or words i 0)) k
pixel-of-word s bswp hwswp words i k h =
    word-pixel s bswp hwswp words 0 i k h
    ∙ ap (λ (n : ℕ). pixel_bits s (in_order bswp hwswp (get_or words n 0)) k) (omega arith)

-- words that are a part of memory hold the pixels that it holds there
pub pixel-of-part : (s : ℕ) (bswp hwswp : Bool) (memory : List ℕ) (from n c : ℕ) → c / (32 / s) < n
    → stored_pixel s bswp hwswp (take n (drop from memory)) 0 c ≡ stored_pixel s bswp hwswp memory from c
unfolding stored_pixel
pixel-of-part s bswp hwswp memory from n c h =
    ap (λ (x : ℕ). pixel_bits s (in_order bswp hwswp x) (c % (32 / s)))
    (ap (λ (k : ℕ). get_or (take n (drop from memory)) k 0) (omega arith)
    ∙ get_or-take n (drop from memory) (c / (32 / s)) 0 h
    ∙ get_or-drop from memory (c / (32 / s)) 0)

-- at 32 stored bits each word is a pixel
pub word-is-pixel : (words : List ℕ) (i : ℕ) → get_or words i 0 < 2 ^ 32 → stored_pixel 32 false false words 0 i ≡ get_or words i 0
unfolding in_order
word-is-pixel words i h =
    ap (stored_pixel 32 false false words 0) (omega arith)
    ∙ pixel-of-word 32 false false words i 0 (omega arith)
    ∙ whole_word (get_or words i 0) h

-- at 16 the two halves, taken from the word with its halves exchanged
module _ (hwswp : Bool) (words : List ℕ) (i : ℕ) where
  x : ℕ
  x = get_or words i 0

  pub first-of-two : cond hwswp (exchange_halves (get_or words i 0) / 2 ^ 16) (exchange_halves (get_or words i 0) % 2 ^ 16)
      ≡ stored_pixel 16 false hwswp words 0 (i * 2)
  unfolding in_order x
  first-of-two =
      go hwswp ∙ sym (ap (stored_pixel 16 false hwswp words 0) (omega arith) ∙ pixel-of-word 16 false hwswp words i 0 (omega arith))
    where
      go : (b : Bool) → cond b (exchange_halves x / 2 ^ 16) (exchange_halves x % 2 ^ 16) ≡ pixel_bits 16 (in_order false b x) 0
      go true = first-half-swapped x
      go false = second-half-was-first x

  pub second-of-two : cond (not hwswp) (exchange_halves (get_or words i 0) / 2 ^ 16) (exchange_halves (get_or words i 0) % 2 ^ 16)
      ≡ stored_pixel 16 false hwswp words 0 (i * 2 + 1)
  unfolding in_order x
  second-of-two = go hwswp ∙ sym (pixel-of-word 16 false hwswp words i 1 (omega arith))
    where
      go : (b : Bool) → cond (not b) (exchange_halves x / 2 ^ 16) (exchange_halves x % 2 ^ 16) ≡ pixel_bits 16 (in_order false b x) 1
      go true = second-half-swapped x
      go false = first-half-was-second x
