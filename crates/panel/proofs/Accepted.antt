-- What acceptance by 1 to 7 gives (§9.1): the facts that other crates build on, each once.
use mathlib.Core.Bool.{Bool, true, false, not, cond, ◌&&◌, ◌||◌, true≢false, false≢true}
use mathlib.Core.Path.{◌≡◌, sym, ap, ap₂, ◌∙◌, subst}
use Prim.Native.Nat.{ℕ, ◌+◌, ◌-◌, ◌*◌, ◌/◌, ◌%◌, ◌^◌, ◌<◌, ◌≤◌}
use native.Mathlib.Decide.{dec_le}
use native.Mathlib.Nat.{mul-le-mul_right, mul-mod_left, mul_assoc, mul_comm, eq_of_mul-eq-mul_right}
use native.Mathlib.Omega.{arith}
use borrow.Author.Tests.{eqb-true, eqb-false, ltb-false, not-false, eq-eqb, ne_eqb}
use lib.Dec.{eqb}
use Rattle.laws.specs.BooleanLaws.{and-never, or-false-left, or-false-right, either_way}
use Rattle.laws.specs.ProductLaws.{product_le}
use Rattle.laws.specs.CaseLaws.{NoneHolds}
use Rattle.laws.proofs.CaseLaws.{lowest-zero-none-holds}
use Rattle.registers.specs.Fields.{pnrmode, bppmode, bswp, hwswp, lcdbaseu, lcdbasel, pagewidth, offsize, stn, reserved_bit}
use Rattle.registers.specs.declared.Words.{Words}
use Rattle.panel.specs.Geometry.{width, height, stored_bits, outside_modes, stn_width, stn_bits, outside_stn_modes, panel_width, panel_bits, pitch, row_offset}
use Rattle.panel.specs.Refusals.{up_to_byte, not_tft, not_stn, neither_panel, no_such_mode, swaps_illegal, row_size_wrong, end_differs, past_bank}
use Rattle.panel.specs.Refusals.{word_cases_where, judge_where, judge, judge_either, judge_stn}
use Rattle.panel.proofs.Modes.{pixels-fill-word, stored-bits-pos, stn-bits-pos}

-- what is said of the rows, on any panel
pub record Laid (w : Words) : Type 0 where
  pub some_bits : 0 < panel_bits w
  pub row-bits : 16 * pagewidth w ≡ panel_width w * panel_bits w
  pub base-even : lcdbaseu w % 2 ≡ 0
  pub row-even : pagewidth w % 2 ≡ 0
  pub gap-even : offsize w % 2 ≡ 0
  pub ends : lcdbasel w ≡ row_offset w (height w) % 2 ^ 21
  pub last-row-inside : row_offset w (height w - 1) + pagewidth w ≤ 2 ^ 21

-- on a TFT panel
pub record Accepted (w : Words) : Type 0 where
  pub clear : reserved_bit w ≡ false
  pub tft : pnrmode w ≡ 3
  pub mode : outside_modes (bppmode w) ≡ false
  pub swaps : swaps_illegal w ≡ false
  pub laid : Laid w

-- on an STN panel
pub record AcceptedStn (w : Words) : Type 0 where
  pub clear : reserved_bit w ≡ false
  pub is-stn : stn w ≡ true
  pub mode : outside_stn_modes (bppmode w) ≡ false
  pub swaps : swaps_illegal w ≡ false
  pub laid : Laid w

-- ---- from each condition that does not hold

not-odd : (n : ℕ) → eqb (n % 2) 1 ≡ false → n % 2 ≡ 0
not-odd n e = let ne = eqb-false (n % 2) 1 e in omega arith

same : (a b : ℕ) → not (eqb a b) ≡ false → a ≡ b
same a b e = eqb-true a b (not-false (eqb a b) e)

record RowSizes (w : Words) : Type 0 where
  bits : 16 * pagewidth w ≡ panel_width w * panel_bits w
  base : lcdbaseu w % 2 ≡ 0
  row : pagewidth w % 2 ≡ 0
  gap : offsize w % 2 ≡ 0

row-sizes : (w : Words) → row_size_wrong w ≡ false → RowSizes w
unfolding row_size_wrong
row-sizes w e =
    record {
      bits = same (16 * pagewidth w) (panel_width w * panel_bits w) (or-false-left differs base₁ e₁);
      base = not-odd (lcdbaseu w) (or-false-right differs base₁ e₁);
      row = not-odd (pagewidth w) (or-false-right (differs || base₁) row₁ e₂);
      gap = not-odd (offsize w) (or-false-right (differs || base₁ || row₁) gap₁ e);
    }
  where
    differs : Bool
    differs = not (eqb (16 * pagewidth w) (panel_width w * panel_bits w))

    base₁ : Bool
    base₁ = eqb (lcdbaseu w % 2) 1

    row₁ : Bool
    row₁ = eqb (pagewidth w % 2) 1

    gap₁ : Bool
    gap₁ = eqb (offsize w % 2) 1

    e₂ : differs || base₁ || row₁ ≡ false
    e₂ = or-false-left (differs || base₁ || row₁) gap₁ e

    e₁ : differs || base₁ ≡ false
    e₁ = or-false-left (differs || base₁) row₁ e₂

-- a mode of the panel stores pixels
mode-stores : (w : Words) → no_such_mode w ≡ false → 0 < panel_bits w
unfolding no_such_mode panel_bits
mode-stores w e = go (stn w) e
  where
    go : (b : Bool) → cond b (outside_stn_modes (bppmode w)) (outside_modes (bppmode w)) ≡ false
        → 0 < cond b (stn_bits (bppmode w)) (stored_bits (bppmode w))
    go true f = stn-bits-pos (bppmode w) f
    go false f = stored-bits-pos (bppmode w) f

-- words that 1 to 7 accept, whatever panel the call takes
module _ (other : Bool) (w : Words) (e : judge_where other w ≡ 0) where
  none : NoneHolds (word_cases_where other w)
  unfolding judge_where
  none = lowest-zero-none-holds 0 (word_cases_where other w) tt e

  sizes : RowSizes w
  sizes = row-sizes w none.1.1.1.1.0

  pub rows-laid : Laid w
  unfolding end_differs past_bank
  rows-laid =
      record {
        some_bits = mode-stores w none.1.1.0;
        row-bits = sizes.bits;
        base-even = sizes.base;
        row-even = sizes.row;
        gap-even = sizes.gap;
        ends = same (lcdbasel w) (row_offset w (height w) % 2 ^ 21) none.1.1.1.1.1.0;
        last-row-inside = ltb-false (2 ^ 21) (row_offset w (height w - 1) + pagewidth w) none.1.1.1.1.1.1.0;
      }

-- words that a call accepts are accepted by one that takes either panel
either-of : (other : Bool) (w : Words) → judge_where other w ≡ 0 → (other ≡ false → neither_panel w ≡ false) → judge_either w ≡ 0
unfolding judge_either judge_where
either-of other w e taken =
    let mine = (none other w e).1.0 in
    ap (λ (b : Bool). judge_where b w) (taken mine ∙ sym mine) ∙ e

pub either-of-tft : (w : Words) → judge w ≡ 0 → judge_either w ≡ 0
unfolding judge judge_where neither_panel
either-of-tft w e = either-of (not_tft w) w e (λ f. rw f)

pub either-of-stn : (w : Words) → judge_stn w ≡ 0 → judge_either w ≡ 0
unfolding judge_stn judge_where neither_panel
either-of-stn w e = either-of (not_stn w) w e (λ f. ap (λ (b : Bool). not_tft w && b) f ∙ and-never (not_tft w))

pub laid-either : (w : Words) → judge_either w ≡ 0 → Laid w
unfolding judge_either judge_where
laid-either w e = rows-laid (neither_panel w) w e

-- PNRMODE 3 is not STN
pub tft-not-stn : (w : Words) → pnrmode w ≡ 3 → stn w ≡ false
unfolding stn
tft-not-stn w e = rw e

pub accepted-words : (w : Words) → judge w ≡ 0 → Accepted w
unfolding judge judge_where not_tft no_such_mode
accepted-words w e =
    let all = none (not_tft w) w e in
    let tft = same (pnrmode w) 3 all.1.0 in
    record {
      clear = all.0;
      tft = tft;
      mode = rw (tft-not-stn w tft) at all.1.1.0;
      swaps = all.1.1.1.0;
      laid = rows-laid (not_tft w) w e;
    }

pub accepted-stn : (w : Words) → judge_stn w ≡ 0 → AcceptedStn w
unfolding judge_stn judge_where not_stn no_such_mode
accepted-stn w e =
    let all = none (not_stn w) w e in
    let is-stn = not-false (stn w) all.1.0 in
    record {
      clear = all.0;
      is-stn = is-stn;
      mode = rw is-stn at all.1.1.0;
      swaps = all.1.1.1.0;
      laid = rows-laid (not_stn w) w e;
    }

-- ---- laws over plain numbers and tests

-- p words of 32 bits, each q pixels of s bits
whole_words : (n s p q : ℕ) → 0 < s → s * q ≡ 32 → n * s ≡ p * 32 → n ≡ p * q
whole_words n s p q pos fill e =
    eq_of_mul-eq-mul_right s pos n (p * q)
    (e ∙ ap (λ (x : ℕ). p * x) (sym fill) ∙ ap (λ (x : ℕ). p * x) (mul_comm s q) ∙ sym (mul_assoc p q s))

even-product : (r p : ℕ) → p % 2 ≡ 0 → (r * p) % 2 ≡ 0
even-product r p e =
    let halves : p ≡ p / 2 * 2 = omega arith in
    ap (λ (x : ℕ). (r * x) % 2) halves
    ∙ ap (λ (x : ℕ). x % 2) (sym (mul_assoc r (p / 2) 2))
    ∙ mul-mod_left (r * (p / 2)) 2

second-false : (a b : Bool) → a && b ≡ false → a ≡ true → b ≡ false
second-false true b e t = e
second-false false b e t = absurd (true≢false (sym t))

up-to-byte-le : (n : ℕ) → up_to_byte n ≡ true → n ≤ 8
up-to-byte-le n t = go (dec_le n 8)
  where
    go : Dec (n ≤ 8) → n ≤ 8
    go (yes h) = h
    go (no h) =
        absurd
        (false≢true
        (rw (
          ne_eqb n 1 (λ e. h (omega arith)),
          ne_eqb n 2 (λ e. h (omega arith)),
          ne_eqb n 4 (λ e. h (omega arith)),
          ne_eqb n 8 (λ e. h (omega arith)),
        )
        at t))

-- ---- what follows on any panel

module _ (w : Words) (a : Laid w) where
  -- a row has a word at least
  pub row-has-words : 2 ≤ pagewidth w
  unfolding panel_width
  row-has-words =
      let some : 1 ≤ panel_width w = either_way (λ k. 1 ≤ k) (stn w) (omega arith) (omega arith) in
      omega (arith, a.row-bits, a.row-even, product_le 1 (panel_width w) 1 (panel_bits w) some a.some_bits)

  -- every row lies inside the bank
  pub row-inside-bank : (r : ℕ) → r < height w → row_offset w r + pagewidth w ≤ 2 ^ 21
  unfolding row_offset
  row-inside-bank r h =
      omega (arith, a.last-row-inside, mul-le-mul_right {m = r} {n = height w - 1} (pitch w) (omega arith))

  -- and starts at a whole word
  pub row-starts-at-word : (r : ℕ) → row_offset w r % 2 ≡ 0
  unfolding row_offset
  row-starts-at-word r =
      omega (arith, a.base-even, even-product r (pitch w) (omega (arith, a.row-even, a.gap-even)))

-- ---- what follows on TFT

module _ (w : Words) (a : Accepted w) where
  pub tft-bits : panel_bits w ≡ stored_bits (bppmode w)
  unfolding panel_bits
  tft-bits = rw (tft-not-stn w a.tft)

  tft-width : panel_width w ≡ width w
  unfolding panel_width
  tft-width = rw (tft-not-stn w a.tft)

  pub row-bits : 16 * pagewidth w ≡ width w * stored_bits (bppmode w)
  row-bits = a.laid.row-bits ∙ ap₂ ◌*◌ tft-width tft-bits

  pub row-in-words : width w * stored_bits (bppmode w) ≡ pagewidth w / 2 * 32
  row-in-words = omega (arith, row-bits, a.laid.row-even)

  -- a row's words hold its pixels, 32 / S to a word
  pub pixels-in-row : width w ≡ pagewidth w / 2 * (32 / stored_bits (bppmode w))
  pixels-in-row =
      whole_words (width w) (stored_bits (bppmode w)) (pagewidth w / 2) (32 / stored_bits (bppmode w))
      (stored-bits-pos (bppmode w) a.mode) (pixels-fill-word (bppmode w) a.mode) row-in-words

  bytes : Bool
  bytes = eqb (bswp w) 1 && not (up_to_byte (panel_bits w))

  halves : Bool
  halves = eqb (hwswp w) 1 && not (eqb (panel_bits w) 16)

  each-swap : bytes || halves ≡ false
  unfolding swaps_illegal bytes halves
  each-swap = or-false-left (bytes || halves) (eqb (bswp w) 1 && eqb (hwswp w) 1) a.swaps

  -- BSWP is set only where a pixel has at most 8 bits
  pub bswp-legal : bswp w ≡ 1 → stored_bits (bppmode w) ≤ 8
  unfolding bytes
  bswp-legal e =
      subst (λ (n : ℕ). n ≤ 8) tft-bits
      (up-to-byte-le (panel_bits w)
      (not-false (up_to_byte (panel_bits w))
      (second-false (eqb (bswp w) 1) (not (up_to_byte (panel_bits w)))
      (or-false-left bytes halves each-swap) (eq-eqb (bswp w) 1 e))))

  -- HWSWP only where it has 16
  pub hwswp-legal : hwswp w ≡ 1 → stored_bits (bppmode w) ≡ 16
  unfolding halves
  hwswp-legal e =
      sym tft-bits
      ∙ same (panel_bits w) 16
      (second-false (eqb (hwswp w) 1) (not (eqb (panel_bits w) 16))
      (or-false-right bytes halves each-swap) (eq-eqb (hwswp w) 1 e))

-- ---- what follows on STN

module _ (w : Words) (a : AcceptedStn w) where
  pub stn-bits : panel_bits w ≡ stn_bits (bppmode w)
  unfolding panel_bits
  stn-bits = rw a.is-stn

  stn-width : panel_width w ≡ stn_width w
  unfolding panel_width
  stn-width = rw a.is-stn

  -- a row's words hold its pixels, eight to each of HOZVAL + 1 clocks
  pub stn-row-in-words : stn_width w * stn_bits (bppmode w) ≡ pagewidth w / 2 * 32
  stn-row-in-words = omega (arith, a.laid.row-bits ∙ ap₂ ◌*◌ stn-width stn-bits, a.laid.row-even)
