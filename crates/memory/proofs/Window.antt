-- Refusal 8 in closed form (§3.6), and what follows where it does not hold: all words of all rows are lent exactly when the first row
-- does not start before the lent memory and the last does not end after it.
use mathlib.Core.Bool.{Bool, true, false, not, ◌||◌, true≢false}
use mathlib.Core.Path.{◌≡◌, refl, sym, ap, ◌∙◌}
use Prim.Native.Nat.{ℕ, ◌+◌, ◌-◌, ◌*◌, ◌/◌, ◌%◌, ◌^◌, ◌<◌, ◌≤◌}
use native.Mathlib.Nat.{mul-le-mul_right}
use native.Mathlib.Omega.{arith}
use borrow.Author.Tests.{lt-ltb, le-ltb, ltb-true, ltb-false, eqb-true, not-false}
use lib.Dec.{eqb, ltb}
use Rattle.laws.specs.Booleans.{some_below}
use Rattle.laws.specs.BooleanLaws.{none_below, one_below, or-false, or-false-left, or-false-right, or-true}
use Rattle.panel.specs.Geometry.{height, pitch, row_offset}
use Rattle.panel.proofs.Accepted.{Laid, row-has-words, row-starts-at-word}
use Rattle.panel.proofs.Bounds.{row-offset-le}
use Rattle.registers.specs.Fields.{pagewidth}
use Rattle.registers.specs.declared.Words.{Words}
use Rattle.memory.specs.Memory.{screen, row_address, row_words, word_outside, outside_memory, first_word}
use Rattle.memory.specs.declared.Screen.{Screen}

-- ---- rows

pub row-address-le : (w : Words) (r n : ℕ) → r ≤ n → row_address w r ≤ 2 ^ 31 + 2 * (2 ^ 21 + n * 4094)
unfolding row_address
row-address-le w r n h = omega (arith, row-offset-le w r n h)

pub rows-rise : (w : Words) (r s : ℕ) → r ≤ s → row_address w r ≤ row_address w s
unfolding row_address row_offset
rows-rise w r s h = omega (arith, mul-le-mul_right {m = r} {n = s} (pitch w) h)

pub row-at-word : (w : Words) → Laid w → (r : ℕ) → row_address w r % 4 ≡ 0
unfolding row_address
row-at-word w a r = omega (arith, row-starts-at-word w a r)

-- ---- the closed form

abbrev pub before_window : Words → ℕ → Bool
before_window w window-start = ltb (row_address w 0) window-start

abbrev pub past_window : Words → ℕ → ℕ → Bool
past_window w window-start lent = ltb (window-start + 4 * lent) (row_address w (height w - 1) + 2 * pagewidth w)

module _ (w : Words) (a : Laid w) (window-start lent : ℕ) where
  some_word : ℕ → Bool
  some_word r = some_below (row_words w) (λ i. word_outside window-start lent (row_address w r + 4 * i))

  inside : before_window w window-start ≡ false → past_window w window-start lent ≡ false → some_below (height w) some_word ≡ false
  unfolding some_word word_outside
  inside first last =
      none_below (height w) some_word
      (λ r h.
      none_below (row_words w) (λ i. word_outside window-start lent (row_address w r + 4 * i))
      (λ i l.
      or-false
      (le-ltb (row_address w r + 4 * i) window-start
      (omega (arith, ltb-false (row_address w 0) window-start first, rows-rise w 0 r (omega arith))))
      (le-ltb (window-start + 4 * lent) (row_address w r + 4 * i + 4)
      (omega (
        arith,
        ltb-false (window-start + 4 * lent) (row_address w (height w - 1) + 2 * pagewidth w) last,
        rows-rise w r (height w - 1) (omega arith),
        a.row-even,
      )))))

  first-word : before_window w window-start ≡ true → some_below (height w) some_word ≡ true
  unfolding some_word word_outside
  first-word t =
      one_below (height w) some_word 0 (omega arith)
      (one_below (row_words w) (λ i. word_outside window-start lent (row_address w 0 + 4 * i)) 0 (omega (arith, row-has-words w a))
      (rw (lt-ltb (row_address w 0 + 4 * 0) window-start (omega (arith, ltb-true (row_address w 0) window-start t)))))

  last_word : past_window w window-start lent ≡ true → some_below (height w) some_word ≡ true
  unfolding some_word word_outside
  last_word t =
      one_below (height w) some_word (height w - 1) (omega arith)
      (one_below (row_words w) (λ i. word_outside window-start lent (row_address w (height w - 1) + 4 * i)) (row_words w - 1)
      (omega (arith, row-has-words w a))
      (ap (λ (b : Bool). ltb (row_address w (height w - 1) + 4 * (row_words w - 1)) window-start || b)
      (lt-ltb (window-start + 4 * lent) (row_address w (height w - 1) + 4 * (row_words w - 1) + 4)
      (omega (
        arith,
        ltb-true (window-start + 4 * lent) (row_address w (height w - 1) + 2 * pagewidth w) t,
        row-has-words w a,
        a.row-even,
      )))
      ∙ or-true (ltb (row_address w (height w - 1) + 4 * (row_words w - 1)) window-start)))

  pub closed-form : outside_memory (screen w window-start) lent ≡ not (eqb (window-start % 4) 0) || (before_window w window-start || past_window w window-start lent)
  unfolding outside_memory some_word
  closed-form = ap (λ (b : Bool). not (eqb (window-start % 4) 0) || b) (go (before_window w window-start) refl (past_window w window-start lent) refl)
    where
      go : (p : Bool) → before_window w window-start ≡ p → (q : Bool) → past_window w window-start lent ≡ q
          → some_below (height w) some_word ≡ p || q
      go true e q e' = first-word e
      go false e true e' = last_word e'
      go false e false e' = inside e e'

  -- ---- how a program judges it: the start first, then the end

  pub outside-early : not (eqb (window-start % 4) 0) || before_window w window-start ≡ true → true ≡ outside_memory (screen w window-start) lent
  outside-early t = go (not (eqb (window-start % 4) 0)) (before_window w window-start) (past_window w window-start lent) t ∙ sym closed-form
    where
      go : (m b p : Bool) → m || b ≡ true → true ≡ m || (b || p)
      go true b p e = refl
      go false true p e = refl
      go false false p e = absurd (true≢false (sym e))

  module _ (f : not (eqb (window-start % 4) 0) || before_window w window-start ≡ false) where
    pub start-at-word : window-start % 4 ≡ 0
    start-at-word =
        eqb-true (window-start % 4) 0
        (not-false (eqb (window-start % 4) 0) (or-false-left (not (eqb (window-start % 4) 0)) (before_window w window-start) f))

    pub start-before : window-start ≤ row_address w 0
    start-before = ltb-false (row_address w 0) window-start (or-false-right (not (eqb (window-start % 4) 0)) (before_window w window-start) f)

    pub outside-late : ltb lent ((row_address w (height w - 1) + 2 * pagewidth w - window-start) / 4) ≡ outside_memory (screen w window-start) lent
    outside-late =
        go (past_window w window-start lent) refl
        ∙ sym (closed-form
        ∙ rw (
          or-false-left (not (eqb (window-start % 4) 0)) (before_window w window-start) f,
          or-false-right (not (eqb (window-start % 4) 0)) (before_window w window-start) f,
        ))
      where
        go : (p : Bool) → past_window w window-start lent ≡ p → ltb lent ((row_address w (height w - 1) + 2 * pagewidth w - window-start) / 4) ≡ past_window w window-start lent
        go true e =
            lt-ltb lent ((row_address w (height w - 1) + 2 * pagewidth w - window-start) / 4)
            (omega (
              arith,
              ltb-true (window-start + 4 * lent) (row_address w (height w - 1) + 2 * pagewidth w) e,
              start-at-word,
              row-at-word w a (height w - 1),
              a.row-even,
            ))
            ∙ sym e
        go false e =
            le-ltb lent ((row_address w (height w - 1) + 2 * pagewidth w - window-start) / 4)
            (omega (arith, ltb-false (window-start + 4 * lent) (row_address w (height w - 1) + 2 * pagewidth w) e))
            ∙ sym e

-- ---- where 8 does not hold, each row's words are lent

module _ (s : Screen) (lent : ℕ) (a : Laid s.words) (e : outside_memory s lent ≡ false) where
  misplaced : Bool
  misplaced = not (eqb (s.window_start % 4) 0)

  parts : misplaced || (before_window s.words s.window_start || past_window s.words s.window_start lent) ≡ false
  unfolding misplaced
  parts = sym (closed-form s.words a s.window_start lent) ∙ e

  ends : before_window s.words s.window_start || past_window s.words s.window_start lent ≡ false
  ends = or-false-right misplaced (before_window s.words s.window_start || past_window s.words s.window_start lent) parts

  early : not (eqb (s.window_start % 4) 0) || before_window s.words s.window_start ≡ false
  unfolding misplaced
  early =
      or-false
      (or-false-left misplaced (before_window s.words s.window_start || past_window s.words s.window_start lent) parts)
      (or-false-left (before_window s.words s.window_start) (past_window s.words s.window_start lent) ends)

  pub row-words-lent : (r : ℕ) → r < height s.words → first_word s r + row_words s.words ≤ lent
  unfolding first_word
  row-words-lent r h =
      omega (
        arith,
        start-at-word s.words a s.window_start lent early,
        start-before s.words a s.window_start lent early,
        row-at-word s.words a r,
        a.row-even,
        rows-rise s.words 0 r (omega arith),
        rows-rise s.words r (height s.words - 1) (omega arith),
        ltb-false (s.window_start + 4 * lent) (row_address s.words (height s.words - 1) + 2 * pagewidth s.words)
            (or-false-right (before_window s.words s.window_start) (past_window s.words s.window_start lent) ends),
      )
