-- Laws of fields that are cut out by masks, moved by shifts and joined by `|` from the lowest up: the word is their sum.
-- Widths and places are numerals at each use, so the side conditions compute. A reader need not believe them.
use Rattle.std.specs.Prelude.{◌≡◌, ℕ, ◌+◌, ◌-◌, ◌*◌, ◌/◌, ◌%◌, ◌^◌, ◌<◌, T, leb}
use Rattle.std.proofs.Common.{sym, ap, ◌∙◌, add-zero, mul_assoc, mod-lt, lt_of_lt_of_le, lit≤, pow_pos, pow_mono, pow-add, shl_lt, shl_exact, shr-shr}
use Rattle.std.proofs.Math.Nat.{mul-mod_left}
use Rattle.std.specs.Int.Bits.{bit_and, bit_or, or_shifted_r}
use Rattle.std.proofs.lemmas.Nat.Bits.{and_high}
use Rattle.std.proofs.lemmas.Nat.{shl-shr, mod-pow-add}
use Rattle.std.proofs.Math.Pow.{shr_mod}
use Rattle.laws.specs.ShiftLaws.{joined-lt}

field_lt : (n width : ℕ) → n % 2 ^ width < 2 ^ width
field_lt n width = mod-lt n (pow_pos width)

-- ---- one field at its place

-- b is f, a number of width bits, at bit low
pub record Field (b f width low : ℕ) : Type 0 where
  pub is : b ≡ f * 2 ^ low
  pub fits : f < 2 ^ width

-- masked, then moved up inside a word
pub masked-moved-up : (v width low up : ℕ) → T (leb (width + (low + up)) 32)
    → Field ((bit_and v (2 ^ (width + low) - 2 ^ low) * 2 ^ up) % 2 ^ 32) (v / 2 ^ low % 2 ^ width) width (low + up)
masked-moved-up v width low up t =
    let f = v / 2 ^ low % 2 ^ width in
    let fits = field_lt (v / 2 ^ low) width in
    record {
      is =
          ap (λ (x : ℕ). (x * 2 ^ up) % 2 ^ 32) (and_high v width low)
          ∙ ap (λ (x : ℕ). x % 2 ^ 32) (mul_assoc f (2 ^ low) (2 ^ up))
          ∙ ap (λ (x : ℕ). (f * x) % 2 ^ 32) (sym (pow-add 2 low up))
          ∙ shl_exact width (low + up) 32 fits (lit≤ t);
      fits = fits;
    }

-- moved down, then masked
pub moved-down-masked : (v width low down : ℕ)
    → Field (bit_and (v / 2 ^ down) (2 ^ (width + low) - 2 ^ low)) (v / 2 ^ (down + low) % 2 ^ width) width low
moved-down-masked v width low down =
    record {
      is =
          and_high (v / 2 ^ down) width low
          ∙ ap (λ (x : ℕ). x % 2 ^ width * 2 ^ low) (shr-shr v down low);
      fits = field_lt (v / 2 ^ (down + low)) width;
    }

-- the lowest field, moved up until every bit above it has left the word
pub moved-to-top : (v width up : ℕ) → Field ((v * 2 ^ up) % 2 ^ (width + up)) (v % 2 ^ width) width up
moved-to-top v width up =
    record {
      is =
          mod-pow-add (v * 2 ^ up) width up
          ∙ ap (λ (x : ℕ). x % 2 ^ width * 2 ^ up + v * 2 ^ up % 2 ^ up) (shl-shr v up)
          ∙ ap (λ (x : ℕ). v % 2 ^ width * 2 ^ up + x) (mul-mod_left v (2 ^ up))
          ∙ add-zero (v % 2 ^ width * 2 ^ up);
      fits = field_lt v width;
    }

-- ---- fields joined

-- a is v, which ends below bit high
pub record Packed (a v high : ℕ) : Type 0 where
  pub is : a ≡ v
  pub below : v < 2 ^ high

-- the highest field of a word, moved down to bit 0
pub moved-from-top : (v width down : ℕ) → v < 2 ^ (width + down) → Packed (v / 2 ^ down) (v / 2 ^ down % 2 ^ width) width
moved-from-top v width down h = record { is = sym (shr_mod width down h); below = field_lt (v / 2 ^ down) width }

pub one_field : {b f width low : ℕ} → Field b f width low → Packed b (f * 2 ^ low) (width + low)
one_field {width} {low} p = record { is = p.is; below = shl_lt width low p.fits }

-- a field over those below it
pub over : {a v high b f width low : ℕ} → T (leb high low) → Packed a v high → Field b f width low
    → Packed (bit_or a b) (f * 2 ^ low + v) (width + low)
over {v} {b} {f} {width} {low} t p q =
    let below = lt_of_lt_of_le p.below (pow_mono (lit≤ t)) in
    record {
      is =
          ap (λ (x : ℕ). bit_or x b) p.is
          ∙ ap (λ (x : ℕ). bit_or v x) q.is
          ∙ or_shifted_r f low v below;
      below = joined-lt f v width low q.fits below;
    }
