-- Laws of shifts and masks of 32-bit numbers as arithmetic. A reader need not believe them.
use Rattle.std.specs.Prelude.{Bool, true, false, ◌||◌, ◌≡◌, refl, ℕ, zero, suc, ◌+◌, ◌-◌, ◌*◌, ◌/◌, ◌%◌, ◌^◌, ◌<◌, ◌≤◌, ltb, leb}
use Rattle.std.proofs.Common.{ap, ap₂, sym, ◌∙◌, one-mul, le_of_eq, le-div_iff_mul-le, arith, lt-ltb, le-ltb, leb-true, leb-false, lit<, shl_exact, pow_pos, pow-add}
use Rattle.std.proofs.Math.Nat.{div-eq_of_lt}
use Rattle.std.proofs.Math.Arith.{digits_lt}
use Rattle.std.specs.Int.Bits.{bit_and, bit_or, or_zero_l, or_add_and}
use Rattle.std.proofs.lemmas.Nat.{and_mask, and_le_r, or_shifted}
use Rattle.laws.specs.BooleanLaws.{or-never}

-- a 1 shifted to bit k
pub one_shifted : (k : ℕ) → k < 32 → (1 * 2 ^ k) % 2 ^ 32 ≡ 2 ^ k
one_shifted k h = shl_exact 1 k 32 (lit< tt) (omega arith) ∙ one-mul (2 ^ k)

-- a word shifted down to bit low, under a mask of the bits up to high
pub shift-and-mask : (w high low : ℕ) → low ≤ high → high - low < 31
    → bit_and (w / 2 ^ low) ((1 * 2 ^ (high - low + 1)) % 2 ^ 32 - 1) ≡ w / 2 ^ low % 2 ^ (suc high - low)
shift-and-mask w high low l h =
    ap (λ (m : ℕ). bit_and (w / 2 ^ low) (m - 1)) (one_shifted (high - low + 1) (omega arith))
    ∙ and_mask (w / 2 ^ low) (high - low + 1)
    ∙ ap (λ (k : ℕ). w / 2 ^ low % 2 ^ k) (omega arith)

-- a value of width bits shifted to bit low, over the bits below it
pub shift-and-join : (v b width low : ℕ) → v < 2 ^ width → b < 2 ^ low → width + low ≤ 32
    → bit_or ((v * 2 ^ low) % 2 ^ 32) b ≡ v * 2 ^ low + b
shift-and-join v b width low hv hb h =
    ap (λ (x : ℕ). bit_or x b) (shl_exact width low 32 hv h) ∙ or_shifted v low b hb

pub joined-lt : (v b width low : ℕ) → v < 2 ^ width → b < 2 ^ low → v * 2 ^ low + b < 2 ^ (width + low)
joined-lt v b width low hv hb = rw (pow-add 2 width low) (digits_lt hv hb)

-- a number is too wide for k bits where its bits from k on are not all 0
pub bits-beyond : (v k : ℕ) → ltb 0 (v / 2 ^ k) ≡ leb (2 ^ k) v
bits-beyond v k = go (leb (2 ^ k) v) refl
  where
    go : (b : Bool) → leb (2 ^ k) v ≡ b → ltb 0 (v / 2 ^ k) ≡ b
    go true e = lt-ltb 0 (v / 2 ^ k) ((le-div_iff_mul-le (pow_pos k)).1 (rw one-mul (leb-true (2 ^ k) v e)))
    go false e = le-ltb 0 (v / 2 ^ k) (le_of_eq (div-eq_of_lt (leb-false (2 ^ k) v e)))

-- the or of two numbers has a bit set where one of them has
some-bit-of-either : (x y : ℕ) → ltb 0 (bit_or x y) ≡ ltb 0 x || ltb 0 y
some-bit-of-either zero y = ap (ltb 0) (or_zero_l y)
some-bit-of-either (suc x) y =
    lt-ltb 0 (bit_or (suc x) y) (omega (arith, or_add_and (suc x) y, and_le_r (suc x) y))
    ∙ ap (λ (t : Bool). t || ltb 0 y) (sym (lt-ltb 0 (suc x) (omega arith)))

-- b says whether x has a bit set
pub record SomeBit (x : ℕ) (b : Bool) : Type 0 where
  pub says : ltb 0 x ≡ b

pub some-bit : {x y : ℕ} → x ≡ y → SomeBit x (ltb 0 y)
some-bit e = record { says = ap (ltb 0) e }

pub some-bit-or : {x y : ℕ} {a b : Bool} → SomeBit x a → SomeBit y b → SomeBit (bit_or x y) (a || b)
some-bit-or {x} {y} p q = record { says = some-bit-of-either x y ∙ ap₂ ◌||◌ p.says q.says }

pub some-bit-never : {x : ℕ} {a : Bool} → SomeBit x a → SomeBit x (a || false)
some-bit-never {a} p = record { says = p.says ∙ sym (or-never a) }
