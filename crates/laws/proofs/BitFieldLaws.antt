-- Laws of packed words (§1.6): values that fit, packed and read; a word read and packed. Each is one induction over the layout. A
-- reader need not believe them.
use Rattle.std.specs.Prelude.{false, ◌&&◌, List, [], ◌∷◌, ◌≡◌, refl, ℕ, suc, ◌+◌, ◌-◌, ◌*◌, ◌/◌, ◌%◌, ◌^◌, ◌<◌, ◌≤◌, T, ltb, leb, eqb, length}
use Rattle.std.proofs.Common.{sym, ap₂, ◌∙◌, mod-lt, mod-eq_of_lt, mul_assoc, arith, leb-false, ltb-false, leb→le, eqb→eq, pow_pos}
use Rattle.std.proofs.Math.Path.{ap}
use Rattle.std.proofs.Math.Nat.{add-mul}
use Rattle.std.proofs.lemmas.Bool.{lt-leb}
use Rattle.std.proofs.Math.Arith.{digits_lt, le-zero}
use Rattle.std.proofs.Math.Pow.{pow-add, high, low}
use Rattle.std.proofs.lemmas.Nat.{mod-pow-add}
use Rattle.laws.specs.BooleanLaws.{and_left, and_right, or-false-left, or-false-right, or-false}
use Rattle.laws.specs.BitFields.{Access, Free, ReadOnly, Reserved, Span, span_width, field, tiles, reserved_set, values}
use Rattle.laws.specs.BitFields.{pack, too_wide, read_only_bits, if_reserved, if_read_only, listed, next_value, other_values}
use Rattle.laws.specs.BitFieldLaws.{Fit, free_spans}

-- ---- a span of a layout that tiles

module _ (n : ℕ) (p : Span) (ps : List Span) (t : T (tiles n (p ∷ ps))) where
  tests : T (eqb n (suc p.high) && leb p.low p.high)
  tests = and_left (eqb n (suc p.high) && leb p.low p.high) (tiles p.low ps) t

  top : n ≡ suc p.high
  top = eqb→eq n (suc p.high) (and_left (eqb n (suc p.high)) (leb p.low p.high) tests)

  ordered : p.low ≤ p.high
  ordered = leb→le p.low p.high (and_right (eqb n (suc p.high)) (leb p.low p.high) tests)

  -- the span reaches up to bit n
  reaches : n ≡ span_width p + p.low
  reaches = omega (arith, top, ordered)

  -- the other spans tile the bits below it
  below : T (tiles p.low ps)
  below = and_right (eqb n (suc p.high) && leb p.low p.high) (tiles p.low ps) t

-- ---- values that fit

-- no value is too wide: each fits
pub all_fit : (ps : List Span) (vs : List ℕ) → too_wide ps vs ≡ false → Fit ps vs
all_fit [] vs f = tt
all_fit (p ∷ ps) vs f = (leb-false (2 ^ span_width p) (next_value p.access vs) here, all_fit ps (other_values p.access vs) others)
  where
    here : leb (2 ^ span_width p) (next_value p.access vs) ≡ false
    here = or-false-left (leb (2 ^ span_width p) (next_value p.access vs)) (too_wide ps (other_values p.access vs)) f

    others : too_wide ps (other_values p.access vs) ≡ false
    others = or-false-right (leb (2 ^ span_width p) (next_value p.access vs)) (too_wide ps (other_values p.access vs)) f

pack-lt : (n : ℕ) (ps : List Span) (vs : List ℕ) → T (tiles n ps) → Fit ps vs → pack ps vs < 2 ^ n
pack-lt n [] vs t f = pow_pos n
pack-lt n (p ∷ ps) vs t f =
    rw (reaches n p ps t, pow-add 2 (span_width p) p.low)
    (digits_lt f.0 (pack-lt p.low ps (other_values p.access vs) (below n p ps t) f.1))

-- ---- a packed word, whatever number q stands in the bits above n

module _ (q n : ℕ) (p : Span) (ps : List Span) (vs : List ℕ) (t : T (tiles n (p ∷ ps))) (f : Fit (p ∷ ps) vs) where
  above : ℕ
  above = q * 2 ^ span_width p + next_value p.access vs

  -- the word is the bits above the span joined with its value, and below them what the other spans pack
  regrouped : q * 2 ^ n + pack (p ∷ ps) vs ≡ above * 2 ^ p.low + pack ps (other_values p.access vs)
  unfolding above
  regrouped = rw (reaches n p ps t, pow-add 2 (span_width p) p.low, add-mul, mul_assoc) (omega arith)

  -- the span's value stands in its field
  field-packed : field p (q * 2 ^ n + pack (p ∷ ps) vs) ≡ next_value p.access vs
  unfolding above
  field-packed =
      ap (field p) regrouped
      ∙ ap (λ (x : ℕ). x % 2 ^ span_width p)
      (high above p.low (pack-lt p.low ps (other_values p.access vs) (below n p ps t) f.1))
      ∙ low q (span_width p) f.0

-- as many values as free spans: each free span takes one
listed_next : (a : Access) (vs : List ℕ) (v : ℕ) (xs : List ℕ) → length vs ≡ length (listed a v xs)
    → listed a (next_value a vs) (other_values a vs) ≡ vs
listed_next Free [] v xs l = absurd (omega arith)
listed_next Free (x ∷ vs) v xs l = refl
listed_next ReadOnly vs v xs l = refl
listed_next Reserved vs v xs l = refl

length_rest : (a : Access) (vs : List ℕ) (v : ℕ) (xs : List ℕ) → length vs ≡ length (listed a v xs)
    → length (other_values a vs) ≡ length xs
length_rest Free [] v xs l = absurd (omega arith)
length_rest Free (x ∷ vs) v xs l = omega arith
length_rest ReadOnly vs v xs l = l
length_rest Reserved vs v xs l = l

no-values : (vs : List ℕ) → length vs ≡ 0 → [] ≡ vs
no-values [] l = refl
no-values (v ∷ vs) l = absurd (omega arith)

values-packed : (q n : ℕ) (ps : List Span) (vs : List ℕ) → T (tiles n ps) → Fit ps vs
    → length vs ≡ free_spans ps → values ps (q * 2 ^ n + pack ps vs) ≡ vs
values-packed q n [] vs t f l = no-values vs l
values-packed q n (p ∷ ps) vs t f l =
    ap₂ (listed p.access) (field-packed q n p ps vs t f)
    (ap (values ps) (regrouped q n p ps vs t f)
    ∙ values-packed (above q n p ps vs t f) p.low ps (other_values p.access vs) (below n p ps t) f.1
    (length_rest p.access vs (field p 0) (values ps 0) l))
    ∙ listed_next p.access vs (field p 0) (values ps 0) l

reserved-next : (a : Access) (vs : List ℕ) → if_reserved a (ltb 0 (next_value a vs)) ≡ false
reserved-next Free vs = refl
reserved-next ReadOnly vs = refl
reserved-next Reserved vs = refl

reserved-packed : (q n : ℕ) (ps : List Span) (vs : List ℕ) → T (tiles n ps) → Fit ps vs
    → reserved_set ps (q * 2 ^ n + pack ps vs) ≡ false
reserved-packed q n [] vs t f = refl
reserved-packed q n (p ∷ ps) vs t f =
    or-false
    (ap (reserved_set ps) (regrouped q n p ps vs t f)
    ∙ reserved-packed (above q n p ps vs t f) p.low ps (other_values p.access vs) (below n p ps t) f.1)
    (ap (λ (v : ℕ). if_reserved p.access (ltb 0 v)) (field-packed q n p ps vs t f) ∙ reserved-next p.access vs)

-- ---- a word's own values

next-listed : (a : Access) (k v : ℕ) (vs : List ℕ) → v < 2 ^ k → leb (2 ^ k) (next_value a (listed a v vs)) ≡ false
next-listed Free k v vs h = lt-leb (2 ^ k) v h
next-listed ReadOnly k v vs h = lt-leb (2 ^ k) 0 (pow_pos k)
next-listed Reserved k v vs h = lt-leb (2 ^ k) 0 (pow_pos k)

rest-listed : (a : Access) (v : ℕ) (vs : List ℕ) → other_values a (listed a v vs) ≡ vs
rest-listed Free v vs = refl
rest-listed ReadOnly v vs = refl
rest-listed Reserved v vs = refl

-- a word's own values are not too wide
pub values-narrow : (ps : List Span) (w : ℕ) → too_wide ps (values ps w) ≡ false
values-narrow [] w = refl
values-narrow (p ∷ ps) w =
    or-false
    (next-listed p.access (span_width p) (field p w) (values ps w) (mod-lt (w / 2 ^ p.low) (pow_pos (span_width p))))
    (ap (too_wide ps) (rest-listed p.access (field p w) (values ps w)) ∙ values-narrow ps w)

-- a span is free, read-only, or reserved and then 0
split-by-access : (a : Access) (v m : ℕ) (vs : List ℕ) → if_reserved a (ltb 0 v) ≡ false
    → next_value a (listed a v vs) * m + if_read_only a v * m ≡ v * m
split-by-access Free v m vs r = omega arith
split-by-access ReadOnly v m vs r = omega arith
split-by-access Reserved v m vs r = omega (arith, ap (λ (x : ℕ). x * m) (le-zero (ltb-false 0 v r)))

packed-values : (n : ℕ) (ps : List Span) (w : ℕ) → T (tiles n ps) → reserved_set ps w ≡ false
    → pack ps (values ps w) + read_only_bits ps w ≡ w % 2 ^ n
packed-values n [] w t r = rw (eqb→eq n 0 t) (omega arith)
packed-values n (p ∷ ps) w t r =
    rw (reaches n p ps t, mod-pow-add w (span_width p) p.low, rest-listed p.access (field p w) (values ps w))
    (omega (
      arith,
      split-by-access p.access (field p w) (2 ^ p.low) (values ps w) here,
      packed-values p.low ps w (below n p ps t) others,
    ))
  where
    others : reserved_set ps w ≡ false
    others = or-false-left (reserved_set ps w) (if_reserved p.access (ltb 0 (field p w))) r

    here : if_reserved p.access (ltb 0 (field p w)) ≡ false
    here = or-false-right (reserved_set ps w) (if_reserved p.access (ltb 0 (field p w))) r

-- ---- the two round trips

module _ (n : ℕ) (ps : List Span) (vs : List ℕ) (t : T (tiles n ps)) (f : Fit ps vs) where
  alone : 0 * 2 ^ n + pack ps vs ≡ pack ps vs
  alone = omega arith

  -- values that fit, packed, are read back the same
  pub packed-and-read : length vs ≡ free_spans ps → values ps (pack ps vs) ≡ vs
  packed-and-read l = ap (values ps) (sym alone) ∙ values-packed 0 n ps vs t f l

  -- and no reserved bit is set
  pub packed-is-clear : reserved_set ps (pack ps vs) ≡ false
  packed-is-clear = ap (reserved_set ps) (sym alone) ∙ reserved-packed 0 n ps vs t f

-- a word with no reserved bit set, read and packed, is the same, read-only bits apart
pub read-and-packed : (n : ℕ) (ps : List Span) (w : ℕ) → T (tiles n ps) → w < 2 ^ n → reserved_set ps w ≡ false
    → pack ps (values ps w) ≡ w - read_only_bits ps w
read-and-packed n ps w t h r = omega (arith, packed-values n ps w t r, mod-eq_of_lt h)
