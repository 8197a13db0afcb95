-- What a format gives: its size (§2.2), its swaps (§4.4), and how many pixels a word holds (§4.1).
use mathlib.Core.Bool.{Bool, true, false, cond, ◌||◌, true≢false}
use mathlib.Core.List.{List, [], ◌∷◌}
use mathlib.Core.Path.{◌≡◌, refl, sym, ap, ap₂, ◌∙◌}
use Prim.Native.Nat.{ℕ, zero, suc, ◌+◌, ◌-◌, ◌*◌, ◌/◌, ◌%◌, ◌^◌, ◌<◌, ◌≤◌}
use native.Mathlib.Decide.{ℕ_discrete, dec_lt}
use native.Mathlib.Nat.{mod-lt, mul-div-mul_right, mul-div_cancel, mul_assoc, mul_comm, add-mul, div-add-mod', mul-zero, mul-lt-mul_of_pos_right, mul-mod_left, mul-sub, mul-le-mul_left, mul-one, add-mul-div_right, add-mul-mod_self_right}
use native.Mathlib.Omega.{arith}
use borrow.Author.Tests.{eqb-true, eq-eqb, ne_eqb, le-leb}
use lib.Arith.{digits_mod}
use lib.Dec.{T, eqb, leb, eqb→eq, leb→le}
use lib.ListN.{length, get_or}
use Rattle.laws.specs.TableLaws.{every}
use Rattle.panel.specs.Geometry.{stored_bits, outside_modes}
use Rattle.panel.specs.Refusals.{judge}
use Rattle.panel.proofs.Accepted.{accepted-words, bswp-legal, hwswp-legal}
use Rattle.panel.proofs.Modes.{size-passes, stored-bits-pos}
use Rattle.pixels.specs.Colours.{expanded, cut24}
use Rattle.pixels.specs.Format.{format}
use Rattle.pixels.specs.Pixel.{indexed, shown}
use Rattle.pixels.specs.declared.format.Format.{Format}
use Rattle.registers.specs.Fields as Fields
use Rattle.registers.specs.declared.Words.{Words}
use Rattle.pixels.specs.Order.{in_order, pixel_bits, stored_pixel}
use Rattle.pixels.proofs.PixelOrder.{pixel-past}
use Rattle.drawing.specs.Colour.{row_colour}
use Rattle.drawing.specs.Core.{Sized, Stores, Legal, looked_up, Expanded, Fits}
use Rattle.pixels.proofs.StoredPixels.{pixel-inside, stored-lt}

-- ---- the six sizes, and none

-- a mode that stores some bits is one of the six
some-mode : (mode : ℕ) → 0 < stored_bits mode → outside_modes mode ≡ false
unfolding stored_bits
some-mode mode = go (outside_modes mode)
  where
    go : (b : Bool) → 0 < cond b 0 (get_or (1 ∷ 2 ∷ 4 ∷ 8 ∷ 16 ∷ 32 ∷ []) (mode - 8) 0) → b ≡ false
    go true h = absurd (omega arith)
    go false h = refl

module _ (f : Format) (l : Stores f) where
  -- what holds of each size holds of the format's
  passes : (p : ℕ → Bool) → T (every p (1 ∷ 2 ∷ 4 ∷ 8 ∷ 16 ∷ 32 ∷ [])) → T (p f.bits)
  passes p t =
      rw l.sized.size (size-passes p t l.sized.mode (some-mode l.sized.mode (rw l.sized.size at l.some)))

  pub bits-fill : f.bits * (32 / f.bits) ≡ 32
  bits-fill = eqb→eq (f.bits * (32 / f.bits)) 32 (passes (λ s. eqb (s * (32 / s)) 32) tt)

  few_bits : f.bits ≤ 32
  few_bits = leb→le f.bits 32 (passes (λ s. leb s 32) tt)

  some-index-bits : (f.bits ≡ 32 → ⊥) → (f.bits ≡ 16 → ⊥) → f.bits ≤ 8
  some-index-bits a b =
      leb→le f.bits 8
      (rw (ne_eqb f.bits 32 a, ne_eqb f.bits 16 b) at (passes (λ s. eqb s 32 || (eqb s 16 || leb s 8)) tt))

  -- the size that is none of the others
  pub last-size : (f.bits ≡ 1 → ⊥) → (f.bits ≡ 2 → ⊥) → (f.bits ≡ 4 → ⊥) → (f.bits ≡ 8 → ⊥) → (f.bits ≡ 16 → ⊥)
      → f.bits ≡ 32
  last-size a b c d e =
      eqb→eq f.bits 32
      (rw (
        ne_eqb f.bits 1 a,
        ne_eqb f.bits 2 b,
        ne_eqb f.bits 4 c,
        ne_eqb f.bits 8 d,
        ne_eqb f.bits 16 e,
      )
      at (passes (λ s. eqb s 1 || (eqb s 2 || (eqb s 4 || (eqb s 8 || (eqb s 16 || eqb s 32))))) tt))

module _ (f : Format) (l : Sized f) where
  pub bits-le : f.bits ≤ 32
  bits-le = go (dec_lt 0 f.bits)
    where
      go : Dec (0 < f.bits) → f.bits ≤ 32
      go (yes h) = few_bits f (record { sized = l; some = h })
      go (no n) = omega arith

  pub index-bits : (f.bits ≡ 32 → ⊥) → (f.bits ≡ 16 → ⊥) → f.bits ≤ 8
  index-bits a b = go (dec_lt 0 f.bits)
    where
      go : Dec (0 < f.bits) → f.bits ≤ 8
      go (yes h) = some-index-bits f (record { sized = l; some = h }) a b
      go (no n) = omega arith

-- whatever the words, their format has the size of a mode number
pub sized-format : (w : Words) → Sized (format w)
unfolding format
sized-format w = record { mode = Fields.bppmode w; size = refl }

-- and that of words that 1 to 7 accept is legal
pub legal-format : (w : Words) → judge w ≡ 0 → Legal (format w)
unfolding format
legal-format w e =
    record {
      stores = record { sized = sized-format w; some = stored-bits-pos (Fields.bppmode w) (accepted-words w e).mode };
      bytes = λ t. bswp-legal w (accepted-words w e) (eqb-true (Fields.bswp w) 1 t);
      halves = λ t. hwswp-legal w (accepted-words w e) (eqb-true (Fields.hwswp w) 1 t);
    }

-- ---- the swaps

module _ (f : Format) (l : Legal f) where
  pub no_bytes : 8 < f.bits → f.bswp ≡ false
  no_bytes h = go f.bswp refl
    where
      go : (b : Bool) → f.bswp ≡ b → f.bswp ≡ false
      go true e = absurd (omega (arith, l.bytes e))
      go false e = e

  pub no-halves : (f.bits ≡ 16 → ⊥) → f.hwswp ≡ false
  no-halves ne = go f.hwswp refl
    where
      go : (b : Bool) → f.hwswp ≡ b → f.hwswp ≡ false
      go true e = absurd (ne (l.halves e))
      go false e = e

-- ---- what stored bits show, by size

module _ (f : Format) (colours : ℕ → ℕ) (v : ℕ) where
  pub shown-at-32 : f.bits ≡ 32 → shown f colours v ≡ cut24 f.bpp24bl v
  unfolding shown
  shown-at-32 e = rw (eq-eqb f.bits 32 e)

  pub shown-at-16 : f.bits ≡ 16 → shown f colours v ≡ expanded f.expansion v
  unfolding shown
  shown-at-16 e = rw (ne_eqb f.bits 32 (λ z. omega arith), eq-eqb f.bits 16 e)

  pub shown-below : (f.bits ≡ 32 → ⊥) → (f.bits ≡ 16 → ⊥) → shown f colours v ≡ colours v
  unfolding shown
  shown-below a b = rw (ne_eqb f.bits 32 a, ne_eqb f.bits 16 b)

-- no table is needed where nothing is looked up
pub no_table : (f : Format) (palette table : List ℕ) → looked_up f ≡ false → Expanded f palette table
no_table f palette table e =
    record { entry = λ off v few h. absurd (hides off few) }
  where
    hides : f.tpalen ≡ false → f.bits ≤ 8 → ⊥
    hides off few = true≢false (sym (rw (le-leb f.bits 8 few, off) refl) ∙ e)

-- a pixel shows the same by the table as by the palette
shown-by-table : (f : Format) → Sized f → (palette table : List ℕ) → Expanded f palette table → f.tpalen ≡ false → (v : ℕ)
    → v < 2 ^ f.bits → shown f (λ i. get_or table i 0) v ≡ shown f (indexed f palette) v
shown-by-table f l palette table e off v h = go (ℕ_discrete f.bits 32) (ℕ_discrete f.bits 16)
  where
    go : Dec (f.bits ≡ 32) → Dec (f.bits ≡ 16) → shown f (λ i. get_or table i 0) v ≡ shown f (indexed f palette) v
    go (yes a) b = shown-at-32 f (λ i. get_or table i 0) v a ∙ sym (shown-at-32 f (indexed f palette) v a)
    go (no a) (yes b) = shown-at-16 f (λ i. get_or table i 0) v b ∙ sym (shown-at-16 f (indexed f palette) v b)
    go (no a) (no b) =
        shown-below f (λ i. get_or table i 0) v a b
        ∙ e.entry off v (index-bits f l a b) h
        ∙ sym (shown-below f (indexed f palette) v a b)

pub row-by-table : (f : Format) → Sized f → (palette table : List ℕ) → Expanded f palette table → (memory : List ℕ) (base c : ℕ)
    → row_colour f (λ v. get_or table v 0) memory base c ≡ row_colour f (indexed f palette) memory base c
unfolding row_colour
row-by-table f l palette table e memory base c = go f.tpalen refl
  where
    stored : ℕ
    stored = stored_pixel f.bits f.bswp f.hwswp memory base c

    go : (b : Bool) → f.tpalen ≡ b
        → cond b f.tpalval (shown f (λ v. get_or table v 0) stored) ≡ cond b f.tpalval (shown f (indexed f palette) stored)
    go true on = refl
    go false off =
        shown-by-table f l palette table e off stored (stored-lt f.bits f.bswp f.hwswp memory base c)

-- ---- columns and words, at s bits a pixel

module _ (s : ℕ) (pos : 0 < s) (fill : s * (32 / s) ≡ 32) where
  pub per-word-pos : 0 < 32 / s
  per-word-pos = go (32 / s) fill
    where
      go : (n : ℕ) → s * n ≡ 32 → 0 < n
      go zero e = absurd (omega (arith, mul-zero s))
      go (suc n) e = omega arith

  pub size-le : s ≤ 32
  size-le = omega (arith, fill, mul-le-mul_left {m = 1} {n = 32 / s} s per-word-pos, mul-one s)

  whole : 32 / s * s ≡ 32
  whole = mul_comm (32 / s) s ∙ fill

  -- the word that holds a pixel, by the bit where the pixel begins
  pub word-of-bit : (c : ℕ) → c * s / 32 ≡ c / (32 / s)
  word-of-bit c = ap (λ (n : ℕ). c * s / n) (sym whole) ∙ mul-div-mul_right c (32 / s) pos

  -- and the bits before the pixel in that word
  pub past-in-word : (c : ℕ) → c * s % 32 ≡ c % (32 / s) * s
  past-in-word c =
      ap₂ (λ (n m : ℕ). n * s % m) (sym (div-add-mod' c (32 / s))) (sym whole)
      ∙ ap (λ (n : ℕ). n % (32 / s * s)) (add-mul (c / (32 / s) * (32 / s)) (c % (32 / s)) s)
      ∙ ap (λ (n : ℕ). (n + c % (32 / s) * s) % (32 / s * s)) (mul_assoc (c / (32 / s)) (32 / s) s)
      ∙ digits_mod (c / (32 / s)) (mul-lt-mul_of_pos_right (mod-lt c per-word-pos) pos)

-- ---- a pixel in its row

-- its stored bits are cut from its word
pub cut-pixel : (f : Format) → Stores f → (memory : List ℕ) (base c x v : ℕ)
    → x ≡ in_order f.bswp f.hwswp (get_or memory (base + c * f.bits / 32) 0)
    → v ≡ x / 2 ^ (32 - (c * f.bits % 32 + f.bits)) % 2 ^ f.bits
    → v ≡ stored_pixel f.bits f.bswp f.hwswp memory base c
unfolding stored_pixel
cut-pixel f l memory base c x v e e' =
    e'
    ∙ pixel-past f.bits (c % (32 / f.bits)) (c * f.bits % 32) x
    (past-in-word f.bits l.some (bits-fill f l) c ∙ mul_comm (c % (32 / f.bits)) f.bits)
    ∙ ap (λ (y : ℕ). pixel_bits f.bits y (c % (32 / f.bits)))
    (e
    ∙ ap (λ (i : ℕ). in_order f.bswp f.hwswp (get_or memory (base + i) 0))
    (word-of-bit f.bits l.some (bits-fill f l) c))

-- in a mode that stores no bits they are 0
pub none-stored-bits : (f : Format) (memory : List ℕ) (base c : ℕ) → f.bits ≡ 0
    → 0 ≡ stored_pixel f.bits f.bswp f.hwswp memory base c
none-stored-bits f memory base c e =
    omega (
      arith,
      stored-lt 0 f.bswp f.hwswp memory base c,
      ap (λ (s : ℕ). stored_pixel s f.bswp f.hwswp memory base c) e,
    )

-- the bits end inside the word
pub cut_inside : (f : Format) → Stores f → (c : ℕ) → c * f.bits % 32 + f.bits ≤ 32
cut_inside f l c =
    omega (
      arith,
      past-in-word f.bits l.some (bits-fill f l) c,
      mul_comm (c % (32 / f.bits)) f.bits,
      pixel-inside f.bits (c % (32 / f.bits)) (bits-fill f l)
          (mod-lt c (per-word-pos f.bits l.some (bits-fill f l))),
    )

-- ---- its colour

module _ (f : Format) (colours : ℕ → ℕ) (memory : List ℕ) (base c : ℕ) where
  pub temporary-colour : f.tpalen ≡ true → row_colour f colours memory base c ≡ f.tpalval
  unfolding row_colour
  temporary-colour e = rw e

  pub shown-colour : f.tpalen ≡ false
      → row_colour f colours memory base c ≡ shown f colours (stored_pixel f.bits f.bswp f.hwswp memory base c)
  unfolding row_colour
  shown-colour e = rw e

-- ---- columns that begin a word, and the words of a row

module _ (s : ℕ) (pos : 0 < s) (fill : s * (32 / s) ≡ 32) (c : ℕ) where
  pub begins-word : c * s % 32 ≡ 0 → c % (32 / s) ≡ 0
  begins-word e = go (c % (32 / s)) (sym (past-in-word s pos fill c) ∙ e)
    where
      go : (n : ℕ) → n * s ≡ 0 → n ≡ 0
      go zero z = refl
      go (suc n) z = absurd (omega (arith, add-mul 1 n s, z))

  -- pixels from the start of a column's word to the column
  pub past_word : c * s % 32 / s ≡ c % (32 / s)
  past_word = ap (λ (n : ℕ). n / s) (past-in-word s pos fill c) ∙ mul-div_cancel (c % (32 / s)) pos

  -- and from there to the next word
  pub left-in-word : (c + (32 - c * s % 32) / s) % (32 / s) ≡ 0
  left-in-word =
      ap (λ (n : ℕ). (c + n) % (32 / s)) left
      ∙ ap (λ (n : ℕ). n % (32 / s)) whole_words
      ∙ mul-mod_left (c / (32 / s) + 1) (32 / s)
    where
      inside : c % (32 / s) < 32 / s
      inside = mod-lt c (per-word-pos s pos fill)

      difference : (32 / s - c % (32 / s)) * s ≡ 32 / s * s - c % (32 / s) * s
      difference =
          mul_comm (32 / s - c % (32 / s)) s
          ∙ mul-sub s (32 / s) (c % (32 / s))
          ∙ ap₂ (λ (n m : ℕ). n - m) (mul_comm s (32 / s)) (mul_comm s (c % (32 / s)))

      left : (32 - c * s % 32) / s ≡ 32 / s - c % (32 / s)
      left =
          ap₂ (λ (n m : ℕ). (n - m) / s) (sym (whole s pos fill)) (past-in-word s pos fill c)
          ∙ ap (λ (n : ℕ). n / s) (sym difference)
          ∙ mul-div_cancel (32 / s - c % (32 / s)) pos

      whole_words : c + (32 / s - c % (32 / s)) ≡ (c / (32 / s) + 1) * (32 / s)
      whole_words = omega (arith, div-add-mod' c (32 / s), add-mul (c / (32 / s)) 1 (32 / s), inside)

-- ---- whole words of a row

-- pixels that begin with a word, counted from there
pub from-word : (s : ℕ) → 0 < 32 / s → (bswp hwswp : Bool) (memory : List ℕ) (base a j : ℕ) → a % (32 / s) ≡ 0
    → stored_pixel s bswp hwswp memory (base + a / (32 / s)) j ≡ stored_pixel s bswp hwswp memory base (a + j)
unfolding stored_pixel
from-word s pos bswp hwswp memory base a j e =
    sym (ap₂ (λ (n m : ℕ). pixel_bits s (in_order bswp hwswp (get_or memory n 0)) m) word past)
  where
    whole_words : a + j ≡ j + a / (32 / s) * (32 / s)
    whole_words = omega (arith, div-add-mod' a (32 / s), e)

    word : base + (a + j) / (32 / s) ≡ base + a / (32 / s) + j / (32 / s)
    word = omega (arith, ap (λ (n : ℕ). n / (32 / s)) whole_words, add-mul-div_right j (a / (32 / s)) pos)

    past : (a + j) % (32 / s) ≡ j % (32 / s)
    past = ap (λ (n : ℕ). n % (32 / s)) whole_words ∙ add-mul-mod_self_right j (a / (32 / s)) (32 / s)

-- ---- the arms of a match on the size

module _ (f : Format) (l : Legal f) (table words : List ℕ) (s : ℕ) (e : f.bits ≡ s) (j : ℕ) where
  -- pixel j, and what it shows by the table
  stored : ℕ
  stored = stored_pixel f.bits f.bswp f.hwswp words 0 j

  same-pixel : (bswp hwswp : Bool) → f.bswp ≡ bswp → f.hwswp ≡ hwswp → stored_pixel s bswp hwswp words 0 j ≡ stored
  unfolding stored
  same-pixel bswp hwswp b h = rw (← e, ← b, ← h)

  pub looked-up : s ≤ 8
      → get_or table (stored_pixel s f.bswp false words 0 j) 0
      ≡ shown f (λ v. get_or table v 0) (stored_pixel f.bits f.bswp f.hwswp words 0 j)
  unfolding stored
  looked-up h =
      ap (λ (v : ℕ). get_or table v 0) (same-pixel f.bswp false refl (no-halves f l (λ z. omega arith)))
      ∙ sym (shown-below f (λ v. get_or table v 0) stored (λ z. omega arith) (λ z. omega arith))

  pub halves-expanded : s ≡ 16
      → expanded f.expansion (stored_pixel s false f.hwswp words 0 j)
      ≡ shown f (λ v. get_or table v 0) (stored_pixel f.bits f.bswp f.hwswp words 0 j)
  unfolding stored
  halves-expanded z =
      ap (expanded f.expansion) (same-pixel false f.hwswp (no_bytes f l (omega arith)) refl)
      ∙ sym (shown-at-16 f (λ v. get_or table v 0) stored (e ∙ z))

  pub words-cut : s ≡ 32
      → cut24 f.bpp24bl (stored_pixel s false false words 0 j)
      ≡ shown f (λ v. get_or table v 0) (stored_pixel f.bits f.bswp f.hwswp words 0 j)
  unfolding stored
  words-cut z =
      ap (cut24 f.bpp24bl) (same-pixel false false (no_bytes f l (omega arith)) (no-halves f l (λ y. omega arith)))
      ∙ sym (shown-at-32 f (λ v. get_or table v 0) stored (e ∙ z))

-- what an arm requires
pub fits-size : (f : Format) (s n : ℕ) (out : List ℕ) → f.bits ≡ s → 0 < s → s * (32 / s) ≡ 32
    → length out ≡ n * (32 / f.bits) → Fits s n out
fits-size f s n out e pos fill room = record { some = pos; whole = fill; room = rw e at room }
