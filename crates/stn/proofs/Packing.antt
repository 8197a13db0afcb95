-- Laws of pixels packed to a number (§5.10), the first in the highest bit.
use mathlib.Core.Bool.{Bool, true, false}
use mathlib.Core.Path.{◌≡◌, refl, sym, ap, ap₂, ◌∙◌}
use Prim.Native.Nat.{ℕ, zero, suc, ◌+◌, ◌-◌, ◌*◌, ◌/◌, ◌%◌, ◌^◌, ◌<◌, ◌≤◌}
use native.Mathlib.Decide.{ℕ_discrete}
use native.Mathlib.Nat.{lt_of_lt_of_le}
use native.Mathlib.Numerals.{add-one}
use native.Mathlib.Omega.{arith}
use borrow.Author.Tests.{ne_eqb}
use lib.Dec.{eqb}
use lib.Pow.{pow_mono, shr-shr, mod-pow-add}
use mir.Val.{bool_byte}
use Rattle.stn.specs.Greys.{bit, packed}

pub bit-lt : (b : Bool) → bit b < 2
bit-lt true = omega arith
bit-lt false = omega arith

-- a Bool as the machine's number
pub bit-of-bool : (b : Bool) → bool_byte b ≡ bit b
bit-of-bool true = refl
bit-of-bool false = refl

pub packed_lt : (g : ℕ → Bool) (n : ℕ) → packed g n < 2 ^ n
unfolding packed
packed_lt g zero = omega arith
packed_lt g (suc n) = omega (arith, packed_lt g n, bit-lt (g n))

-- at most m pixels fit m bits
pub packed-few : (g : ℕ → Bool) (n m : ℕ) → n ≤ m → packed g n < 2 ^ m
packed-few g n m h = lt_of_lt_of_le (packed_lt g n) (pow_mono h)

-- by another name: a number that packs at most m pixels
pub packs-few : (g : ℕ → Bool) (n m v : ℕ) → v ≡ packed g n → n ≤ m → v < 2 ^ m
packs-few g n m v e h = rw e (packed-few g n m h)

pub packed-same : (g h : ℕ → Bool) (n : ℕ) → ((k : ℕ) → k < n → g k ≡ h k) → packed g n ≡ packed h n
unfolding packed
packed-same g h zero e = refl
packed-same g h (suc n) e =
    ap₂ (λ (m : ℕ) (b : Bool). m * 2 + bit b) (packed-same g h n (λ k l. e k (omega arith))) (e n (omega arith))

-- one more pixel
pub one-more-packed : (g : ℕ → Bool) (n m b : ℕ) → m ≡ packed g n → b ≡ bit (g n) → m * 2 + b ≡ packed g (n + 1)
unfolding packed
one-more-packed g n m b e f = rw (add-one, e, f)

-- pixel k of n is bit n - 1 - k
pub bit-of-packed : (g : ℕ → Bool) (n k : ℕ) → k < n → packed g n / 2 ^ (n - 1 - k) % 2 ≡ bit (g k)
unfolding packed
bit-of-packed g zero k h = absurd (omega arith)
bit-of-packed g (suc n) k h = go (ℕ_discrete k n) (λ l. bit-of-packed g n k l)
  where
    m : ℕ
    m = packed g n * 2 + bit (g n)

    go : Dec (k ≡ n) → (k < n → packed g n / 2 ^ (n - 1 - k) % 2 ≡ bit (g k)) → m / 2 ^ (suc n - 1 - k) % 2 ≡ bit (g k)
    go (yes e) below =
        ap (λ (j : ℕ). m / 2 ^ j % 2) {y = 0} (omega arith)
        ∙ omega (arith, bit-lt (g n))
        ∙ ap (λ (j : ℕ). bit (g j)) (sym e)
    go (no ne) below =
        ap (λ (j : ℕ). m / 2 ^ j % 2) {y = 1 + (n - 1 - k)} (omega arith)
        ∙ ap (λ (y : ℕ). y % 2) (sym (shr-shr m 1 (n - 1 - k)))
        ∙ ap (λ (y : ℕ). y / 2 ^ (n - 1 - k) % 2) {y = packed g n} (omega (arith, bit-lt (g n)))
        ∙ below (omega arith)

bit-of-test : (y : ℕ) → y < 2 → bit (eqb y 1) ≡ y
bit-of-test y h = go (ℕ_discrete y 1)
  where
    go : Dec (y ≡ 1) → bit (eqb y 1) ≡ y
    go (yes e) = rw e
    go (no ne) = rw (ne_eqb y 1 ne) (omega arith)

-- the n bits of a number below bit `top` are pixels, the highest first
pub packed-bits : (x top n : ℕ) → n ≤ top → packed (λ k. eqb (x / 2 ^ (top - 1 - k) % 2) 1) n ≡ x / 2 ^ (top - n) % 2 ^ n
unfolding packed
packed-bits x top zero h = omega arith
packed-bits x top (suc n) h =
    let y = x / 2 ^ (top - 1 - n) in
    let above : x / 2 ^ (top - n) ≡ y / 2 ^ 1 = ap (λ (j : ℕ). x / 2 ^ j) (omega arith) ∙ sym (shr-shr x (top - 1 - n) 1) in
    ap₂ (λ (a b : ℕ). a * 2 + b) (packed-bits x top n (omega arith)) (bit-of-test (y % 2) (omega arith))
    ∙ ap (λ (z : ℕ). z % 2 ^ n * 2 + y % 2) above
    ∙ sym (mod-pow-add y n 1)
    ∙ ap₂ (λ (i j : ℕ). x / 2 ^ i % 2 ^ j) (omega arith) (omega arith)
