-- Pixels that fill whole words of a row (§4.1), in a turn of rows too, and in a stretch of the picture (§5.7).
use mathlib.Core.List.{List}
use mathlib.Core.Path.{◌≡◌, ap, ◌∙◌, subst}
use Prim.Native.Nat.{ℕ, min, max, ◌+◌, ◌-◌, ◌*◌, ◌/◌, ◌%◌, ◌<◌, ◌≤◌, ◌∣◌}
use native.Mathlib.Decide.{dec_lt}
use native.Mathlib.Nat.{div-mul_cancel, mod-eq-zero_of_dvd, dvd_of_mod-eq-zero, dvd_refl, dvd-add, dvd-mul_left_of_dvd, div-add-mod', le-div_iff_mul-le, div-mul-le_self, add-mul, div-lt_iff_lt-mul}
use native.Mathlib.Omega.{arith}
use lib.ListN.{length, take, drop}
use Rattle.laws.specs.Storing.{stores}
use Rattle.laws.specs.StoringLaws.{Stored, none-stored, some_more, all-stored}
use Rattle.panel.specs.Geometry.{width, height}
use Rattle.pixels.specs.Format.{format}
use Rattle.pixels.specs.declared.format.Format.{Format}
use Rattle.pixels.specs.Order.{stored_pixel}
use Rattle.pixels.proofs.StoredPixels.{pixel-of-part}
use Rattle.memory.specs.Memory.{first_word}
use Rattle.memory.specs.declared.Screen.{Screen}
use Rattle.drawing.specs.Core.{per_word, Columns, ByRows}
use Rattle.drawing.proofs.Formats.{bits-fill, per-word-pos, word-of-bit, from-word}

-- ---- columns

module _ (f : Format) (memory : List ℕ) (base column n : ℕ) (c : Columns f memory base column n) where
  q-pos : 0 < per_word f
  q-pos = per-word-pos f.bits c.legal.stores.some (bits-fill f c.legal.stores)

  -- the words before a pixel, and those that the pixels fill
  pub word : (k : ℕ) → k * f.bits / 32 ≡ k / per_word f
  word = word-of-bit f.bits c.legal.stores.some (bits-fill f c.legal.stores)

  pub pixels-of-words : n * f.bits / 32 * per_word f ≡ n
  pixels-of-words = ap (λ (k : ℕ). k * per_word f) (word n) ∙ div-mul_cancel (per_word f) c.lent.whole

  pub words-lent : base + column * f.bits / 32 + n * f.bits / 32 ≤ length memory
  words-lent = omega (arith, word n, word column, c.lent.inside)

  -- a pixel of these words by themselves is a pixel of the row
  pub pixel-of-words : (i m : ℕ) → i < n → m ≡ n * f.bits / 32
      → stored_pixel f.bits f.bswp f.hwswp (take m (drop (base + column * f.bits / 32) memory)) 0 i
      ≡ stored_pixel f.bits f.bswp f.hwswp memory base (column + i)
  pixel-of-words i m h e =
      pixel-of-part f.bits f.bswp f.hwswp memory (base + column * f.bits / 32) m i inside
      ∙ ap (λ (k : ℕ). stored_pixel f.bits f.bswp f.hwswp memory (base + k) i) (word column)
      ∙ from-word f.bits q-pos f.bswp f.hwswp memory base column i (mod-eq-zero_of_dvd (per_word f) (c.begins (omega (arith, h))))
    where
      inside : i / per_word f < m
      inside = (div-lt_iff_lt-mul {k = per_word f} {x = i} {y = m} q-pos).1 (rw (e, pixels-of-words) h)

-- ---- a turn of rows

pub dvd-min : (q a b : ℕ) → q ∣ a → q ∣ b → q ∣ min a b
dvd-min q a b d e = go (dec_lt a b)
  where
    go : Dec (a < b) → q ∣ min a b
    go (yes h) = subst (λ (k : ℕ). q ∣ k) (omega arith) d
    go (no h) = subst (λ (k : ℕ). q ∣ k) (omega arith) e

pub dvd-max : (q a b : ℕ) → q ∣ a → q ∣ b → q ∣ max a b
dvd-max q a b d e = go (dec_lt a b)
  where
    go : Dec (a < b) → q ∣ max a b
    go (yes h) = subst (λ (k : ℕ). q ∣ k) (omega arith) e
    go (no h) = subst (λ (k : ℕ). q ∣ k) (omega arith) d

-- two parts of a row have no more words than the row
words-add : (q a b wide : ℕ) → 0 < q → a + b ≤ wide → a / q + b / q ≤ wide / q
words-add q a b wide pos h =
    (le-div_iff_mul-le {k = q} {x = a / q + b / q} {y = wide} pos).1
    (omega (arith, add-mul (a / q) (b / q) q, div-mul-le_self a q, div-mul-le_self b q))

-- what a turn draws lies in the memory
pub part-lent : (s : Screen) (lent : ℕ) → ByRows s lent → (r column n : ℕ) → r < height s.words → column + n ≤ width s.words
    → first_word s r + column / per_word (format s.words) + n / per_word (format s.words) ≤ lent
part-lent s lent rows r column n h fits =
    let q = per_word (format s.words) in
    let pos = per-word-pos (format s.words).bits rows.legal.stores.some (bits-fill (format s.words) rows.legal.stores) in
    omega (arith, rows.inside r h, words-add q column n (width s.words) pos fits)

-- ---- a stretch

-- its rows begin with a word: t pixels after pixel `first` one begins
pub word-begins : (q wide first t : ℕ) → q ∣ wide → (first % wide + t) % q ≡ 0 → q ∣ first + t
word-begins q wide first t w e =
    subst (λ (k : ℕ). q ∣ k) (omega (arith, div-add-mod' first wide))
    (dvd-add q (dvd-mul_left_of_dvd q w (first / wide)) (dvd_of_mod-eq-zero q e))

-- without the pixels past the last whole word, what is left fills words
pub words_left : (q n : ℕ) → q ∣ n - n % q
words_left q n = subst (λ (k : ℕ). q ∣ k) (omega (arith, div-add-mod' n q)) (dvd-mul_left_of_dvd q (dvd_refl q) (n / q))

-- three stretches of a slice, stored one after another, are one
pub three-parts : (g : ℕ → ℕ) (first head n tail : ℕ) (out one two three : List ℕ) → head + tail ≤ n
    → one ≡ stores (λ k. g (first + k)) first head out
    → two ≡ stores (λ k. g (first + head + k)) (first + head) (n - head - tail) one
    → three ≡ stores (λ k. g (first + (n - tail) + k)) (first + (n - tail)) tail two
    → three ≡ stores (λ k. g (first + k)) first n out
three-parts g first head n tail out one two three fits e₁ e₂ e₃ = all-stored h first out three _ third n (omega arith)
  where
    h : ℕ → ℕ
    h k = g (first + k)

    start : Stored h first out one (0 + head)
    start = some_more h first out out 0 (none-stored h first out) h first head one e₁ (omega arith) (λ i l. ap h (omega arith))

    second : Stored h first out two (0 + head + (n - head - tail))
    second =
        some_more h first out one (0 + head) start _ (first + head) (n - head - tail) two e₂ (omega arith) (λ i l. ap g (omega arith))

    third : Stored h first out three (0 + head + (n - head - tail) + tail)
    third =
        some_more h first out two (0 + head + (n - head - tail)) second _ (first + (n - tail)) tail three e₃ (omega arith)
        (λ i l. ap g (omega arith))
