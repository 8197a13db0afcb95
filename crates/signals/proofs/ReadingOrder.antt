-- The pixels of a frame come in reading order (§6.6): before the clock of the pixel in row r, column c come r × W + c pixels, after it
-- one more, and a blank clock adds none.
use mathlib.Core.Path.{◌≡◌, refl, sym, ap, ap₂, ◌∙◌}
use Prim.Native.Nat.{ℕ, zero, suc, ◌+◌, ◌-◌, ◌*◌, ◌/◌, ◌%◌, ◌<◌, ◌≤◌}
use native.Mathlib.Decide.{dec_lt}
use native.Mathlib.Nat.{div-add-mod', mod-lt, add-mul, mul-le-mul_right, le_of_eq, zero-div}
use native.Mathlib.Numerals.{add-one}
use native.Mathlib.Omega.{arith}
use borrow.Author.Tests.{lt-ltb, le-ltb}
use lib.Arith.{digits_div, digits_mod}
use Rattle.std.specs.Prelude.{Option, min}
use Rattle.std.proofs.Common.{⊎_elim}
use Rattle.panel.specs.Timing.{Timing, line_clocks}
use Rattle.signals.specs.Parts.{lines_before, clocks_before, line_part}
use Rattle.signals.specs.declared.parts.Part.TheVariants.{Active}
use Rattle.signals.specs.Core.{columns_before, pixels_in_lines, pixels_by_lines}
use Rattle.signals.specs.Pixel.{spot_at, pixel_clock, count_in, pixels_before}
use Rattle.panel.specs.declared.geometry.Place.{Place}
use Rattle.signals.proofs.Positions.{active-is-among, other-is-outside, Lies, ahead, among, past, lies, wide, high, line-room, some-clocks, At, Shows, pixel, blank, shows, at-pixel-clock}

-- ---- pixels before a clock of a line, by where the line lies

module _ (before high wide line columns : ℕ) where
  none_ahead : line < before → pixels_in_lines before high wide line columns ≡ 0
  unfolding pixels_in_lines
  none_ahead h = rw (lt-ltb line before h) refl

  some-among : (r : ℕ) → r < high → line ≡ before + r → pixels_in_lines before high wide line columns ≡ r * wide + columns
  unfolding pixels_in_lines
  some-among r h e =
      let rest : line - before ≡ r = omega arith in
      rw (le-ltb line before (omega arith), rest, lt-ltb r high h) refl

  all_past : before + high ≤ line → pixels_in_lines before high wide line columns ≡ high * wide
  unfolding pixels_in_lines
  all_past h = rw (le-ltb line before (omega arith), le-ltb (line - before) high (omega arith)) refl

-- ---- the next clock: of the same line, or the first of the next

data Next (size p : ℕ) : Type 0 where
  in_line : p % size + 1 < size → (p + 1) / size ≡ p / size → (p + 1) % size ≡ p % size + 1 → Next size p
  new_line : p % size + 1 ≡ size → (p + 1) / size ≡ p / size + 1 → (p + 1) % size ≡ 0 → Next size p

next : (size p : ℕ) → 0 < size → Next size p
next size p pos = go (dec_lt (p % size + 1) size)
  where
    go : Dec (p % size + 1 < size) → Next size p
    go (yes h) =
        let e : p + 1 ≡ p / size * size + (p % size + 1) = omega (arith, div-add-mod' p size) in
        in_line h (ap (λ (x : ℕ). x / size) e ∙ digits_div (p / size) h) (ap (λ (x : ℕ). x % size) e ∙ digits_mod (p / size) h)
    go (no h) =
        let full : p % size + 1 ≡ size = omega (arith, mod-lt p pos) in
        let e : p + 1 ≡ (p / size + 1) * size + 0 = omega (arith, div-add-mod' p size, add-mul (p / size) 1 size) in
        new_line full (ap (λ (x : ℕ). x / size) e ∙ digits_div (p / size + 1) pos)
        (ap (λ (x : ℕ). x % size) e ∙ digits_mod (p / size + 1) pos)

-- ---- pixels before a position

module _ (t : Timing) where
  abbrev cols : ℕ → ℕ
  cols clock = columns_before (clocks_before t) (wide t) clock

  -- at the clock with this number, in the line with this number
  abbrev count : ℕ → ℕ → ℕ
  count line clock = pixels_in_lines (lines_before t) (high t) (wide t) line (cols clock)

  first-of-line : (line : ℕ) → count (line + 1) 0 ≡ count line (line_clocks t - 1)
  unfolding columns_before
  first-of-line line = go (lies (lines_before t) (high t) line)
    where
      go : Lies (lines_before t) (high t) line → count (line + 1) 0 ≡ count line (line_clocks t - 1)
      go (ahead h) = ahead-next (dec_lt (line + 1) (lines_before t)) ∙ sym (none_ahead (lines_before t) (high t) (wide t) line (cols (line_clocks t - 1)) h)
        where
          ahead-next : Dec (line + 1 < lines_before t) → count (line + 1) 0 ≡ 0
          ahead-next (yes k) = none_ahead (lines_before t) (high t) (wide t) (line + 1) (cols 0) k
          ahead-next (no k) = some-among (lines_before t) (high t) (wide t) (line + 1) (cols 0) 0 (omega arith) (omega arith) ∙ omega arith
      go (past h) =
          all_past (lines_before t) (high t) (wide t) (line + 1) (cols 0) (omega arith)
          ∙ sym (all_past (lines_before t) (high t) (wide t) line (cols (line_clocks t - 1)) h)
      go (among r h e) =
          next_row (dec_lt (r + 1) (high t))
          ∙ sym (some-among (lines_before t) (high t) (wide t) line (cols (line_clocks t - 1)) r h e)
        where
          full : cols (line_clocks t - 1) ≡ wide t
          full = omega (arith, line-room t)

          more : (r + 1) * wide t ≡ r * wide t + cols (line_clocks t - 1)
          more = omega (arith, add-mul r 1 (wide t), full)

          next_row : Dec (r + 1 < high t) → count (line + 1) 0 ≡ r * wide t + cols (line_clocks t - 1)
          next_row (yes k) =
              some-among (lines_before t) (high t) (wide t) (line + 1) (cols 0) (r + 1) k (omega arith) ∙ omega (arith, more)
          next_row (no k) =
              all_past (lines_before t) (high t) (wide t) (line + 1) (cols 0) (omega arith)
              ∙ ap (λ (n : ℕ). n * wide t) (omega arith)
              ∙ more

  -- two clocks of a line with as many columns before them count the same
  same-columns : (line clock clock' : ℕ) → cols clock ≡ cols clock' → count line clock ≡ count line clock'
  same-columns line clock clock' e = ap (pixels_in_lines (lines_before t) (high t) (wide t) line) e

  idle-line-counts : (line clock clock' : ℕ) → ((r : ℕ) → r < high t → line ≡ lines_before t + r → ⊥)
      → count line clock ≡ count line clock'
  idle-line-counts line clock clock' idle = go (lies (lines_before t) (high t) line)
    where
      go : Lies (lines_before t) (high t) line → count line clock ≡ count line clock'
      go (ahead h) =
          none_ahead (lines_before t) (high t) (wide t) line (cols clock) h
          ∙ sym (none_ahead (lines_before t) (high t) (wide t) line (cols clock') h)
      go (among r h e) = absurd (idle r h e)
      go (past h) =
          all_past (lines_before t) (high t) (wide t) line (cols clock) h
          ∙ sym (all_past (lines_before t) (high t) (wide t) line (cols clock') h)

  -- ---- at a pixel's clock, after it, and after a blank one

  by-lines-before : (p r c : ℕ) → At t p r c → pixels_by_lines t p ≡ r * wide t + c
  unfolding pixels_by_lines columns_before
  by-lines-before p r c a =
      some-among (lines_before t) (high t) (wide t) (p / line_clocks t) (cols (p % line_clocks t)) r a.row a.line
      ∙ omega (arith, a.clock, a.column)

  by-lines-after : (p r c : ℕ) → At t p r c → pixels_by_lines t (p + 1) ≡ r * wide t + c + 1
  unfolding pixels_by_lines columns_before
  by-lines-after p r c a = go (next (line_clocks t) p (some-clocks t))
    where
      go : Next (line_clocks t) p → pixels_by_lines t (p + 1) ≡ r * wide t + c + 1
      go (in_line h e e') =
          some-among (lines_before t) (high t) (wide t) ((p + 1) / line_clocks t) (cols ((p + 1) % line_clocks t)) r a.row (e ∙ a.line)
          ∙ omega (arith, e', a.clock, a.column)
      go (new_line h e e') = absurd (omega (arith, a.clock, a.column, line-room t))

  by-lines-blank : (p : ℕ) → ((r c : ℕ) → At t p r c → ⊥) → pixels_by_lines t (p + 1) ≡ pixels_by_lines t p
  unfolding pixels_by_lines columns_before
  by-lines-blank p none = go (next (line_clocks t) p (some-clocks t)) (lies (clocks_before t) (wide t) (p % line_clocks t))
    where
      stays : cols (p % line_clocks t + 1) ≡ cols (p % line_clocks t) → (p + 1) / line_clocks t ≡ p / line_clocks t → (p + 1) % line_clocks t ≡ p % line_clocks t + 1 → pixels_by_lines t (p + 1) ≡ pixels_by_lines t p
      stays s e e' =
          ap₂ count e e' ∙ same-columns (p / line_clocks t) (p % line_clocks t + 1) (p % line_clocks t) s

      go : Next (line_clocks t) p → Lies (clocks_before t) (wide t) (p % line_clocks t) → pixels_by_lines t (p + 1) ≡ pixels_by_lines t p
      go (in_line h e e') (ahead k) = stays (omega arith) e e'
      go (in_line h e e') (past k) = stays (omega arith) e e'
      go (in_line h e e') (among c k q) =
          ap₂ count e e'
          ∙ idle-line-counts (p / line_clocks t) (p % line_clocks t + 1) (p % line_clocks t)
          (λ r h' l. none r c (record { row = h'; column = k; line = l; clock = q }))
      go (new_line h e e') k =
          ap₂ count e e' ∙ first-of-line (p / line_clocks t) ∙ ap (count (p / line_clocks t)) (omega arith)

  by-lines-begins : pixels_by_lines t 0 ≡ 0
  unfolding pixels_by_lines
  by-lines-begins =
      none_ahead (lines_before t) (high t) (wide t) (0 / line_clocks t) (cols (0 % line_clocks t))
      (omega (arith, zero-div (line_clocks t)))

  -- so the count by lines is the count of the clocks that show a pixel
  pub counted-by-lines : (p : ℕ) → pixels_before t p ≡ pixels_by_lines t p
  unfolding pixels_before count_in
  counted-by-lines zero = sym by-lines-begins
  counted-by-lines (suc p) =
      ap (λ (n : ℕ). n + count_in (spot_at t p)) (counted-by-lines p)
      ∙ one_more (shows t p)
      ∙ ap (pixels_by_lines t) (add-one p)
    where
      one_more : Shows t p → pixels_by_lines t p + count_in (spot_at t p) ≡ pixels_by_lines t (p + 1)
      one_more (pixel r c a e) =
          ap (λ (x : Option Place). pixels_by_lines t p + count_in x) e
          ∙ omega (arith, by-lines-before p r c a, by-lines-after p r c a)
      one_more (blank none e) =
          ap (λ (x : Option Place). pixels_by_lines t p + count_in x) e ∙ omega (arith, by-lines-blank p none)

  -- and the count by the part of the line: in an active one the rows above it and what comes before the clock, in others whole rows
  pub counted-in-row : (p r : ℕ) → line_part t p ≡ Active r
      → pixels_before t p ≡ r * wide t + min (p % line_clocks t - clocks_before t) (wide t)
  unfolding line_part pixels_by_lines columns_before
  counted-in-row p r e =
      let a = active-is-among (t.vspw + 1) (lines_before t) (high t) (p / line_clocks t) r (omega arith) e in
      counted-by-lines p
      ∙ some-among (lines_before t) (high t) (wide t) (p / line_clocks t) (cols (p % line_clocks t)) r a.0 a.1

  pub counted-in-rows : (p : ℕ) → ((r : ℕ) → line_part t p ≡ Active r → ⊥)
      → pixels_before t p ≡ min (p / line_clocks t - lines_before t) (high t) * wide t
  unfolding line_part pixels_by_lines
  counted-in-rows p ne =
      counted-by-lines p
      ∙ ⊎_elim
      (λ h. none_ahead (lines_before t) (high t) (wide t) (p / line_clocks t) (cols (p % line_clocks t)) h
      ∙ omega (arith, ap (λ (n : ℕ). n * wide t) (none_yet h)))
      (λ h. all_past (lines_before t) (high t) (wide t) (p / line_clocks t) (cols (p % line_clocks t)) h
      ∙ ap (λ (n : ℕ). n * wide t) (omega arith))
      (other-is-outside (t.vspw + 1) (lines_before t) (high t) (p / line_clocks t) (omega arith) ne)
    where
      none_yet : p / line_clocks t < lines_before t → min (p / line_clocks t - lines_before t) (high t) ≡ 0
      none_yet h = omega arith

  -- ---- the three laws

  pub before-pixel : (p r c : ℕ) → At t p r c → pixels_before t p ≡ r * wide t + c
  before-pixel p r c a = counted-by-lines p ∙ by-lines-before p r c a

  pub after-pixel : (p r c : ℕ) → At t p r c → pixels_before t (p + 1) ≡ r * wide t + c + 1
  after-pixel p r c a = counted-by-lines (p + 1) ∙ by-lines-after p r c a

  pub after-blank : (p : ℕ) → ((r c : ℕ) → At t p r c → ⊥) → pixels_before t (p + 1) ≡ pixels_before t p
  after-blank p none = counted-by-lines (p + 1) ∙ by-lines-blank p none ∙ sym (counted-by-lines p)

  -- ---- what follows

  pub grows : (p : ℕ) → pixels_before t p ≤ pixels_before t (p + 1)
  grows p = go (shows t p)
    where
      go : Shows t p → pixels_before t p ≤ pixels_before t (p + 1)
      go (pixel r c a e) = omega (arith, before-pixel p r c a, after-pixel p r c a)
      go (blank none e) = omega (arith, after-blank p none)

  grows-by : (p n : ℕ) → pixels_before t p ≤ pixels_before t (p + n)
  grows-by p zero = let e : p ≡ p + 0 = omega arith in le_of_eq (ap (pixels_before t) e)
  grows-by p (suc n) =
      let e : p + suc n ≡ p + n + 1 = omega arith in
      omega (arith, grows-by p n, grows (p + n), ap (pixels_before t) e)

  -- the later the clock, the more pixels before it
  pub further : (p q : ℕ) → p ≤ q → pixels_before t p ≤ pixels_before t q
  further p q h =
      let e : p + (q - p) ≡ q = omega arith in
      let g = grows-by p (q - p) in
      rw e at g

  -- never more than the panel has
  pub at-most-all : (p : ℕ) → pixels_before t p ≤ high t * wide t
  unfolding pixels_by_lines columns_before
  at-most-all p = rw (counted-by-lines p) (go (lies (lines_before t) (high t) (p / line_clocks t)))
    where
      go : Lies (lines_before t) (high t) (p / line_clocks t) → pixels_by_lines t p ≤ high t * wide t
      go (ahead h) = omega (arith, none_ahead (lines_before t) (high t) (wide t) (p / line_clocks t) (cols (p % line_clocks t)) h)
      go (past h) = omega (arith, all_past (lines_before t) (high t) (wide t) (p / line_clocks t) (cols (p % line_clocks t)) h)
      go (among r h e) =
          omega (
            arith,
            some-among (lines_before t) (high t) (wide t) (p / line_clocks t) (cols (p % line_clocks t)) r h e,
            mul-le-mul_right {m = r + 1} {n = high t} (wide t) (omega arith),
            add-mul r 1 (wide t),
          )

  -- reading order is clock order
  pub in-clock-order : (r c r' c' : ℕ) → r < high t → c < wide t → r' < high t → c' < wide t
      → r * wide t + c < r' * wide t + c' → pixel_clock t r c < pixel_clock t r' c'
  in-clock-order r c r' c' h k h' k' l = go (dec_lt (pixel_clock t r c) (pixel_clock t r' c'))
    where
      go : Dec (pixel_clock t r c < pixel_clock t r' c') → pixel_clock t r c < pixel_clock t r' c'
      go (yes d) = d
      go (no d) =
          absurd
          (omega (
            arith,
            further (pixel_clock t r' c') (pixel_clock t r c) (omega arith),
            before-pixel (pixel_clock t r c) r c (at-pixel-clock t r c h k),
            before-pixel (pixel_clock t r' c') r' c' (at-pixel-clock t r' c' h' k'),
          ))

  -- a pixel that comes between two clocks has its own clock between them
  pub record Between (p n j : ℕ) : Type 0 where
    pub clocks : ℕ
    pub fewer : clocks < n
    pub row : ℕ
    pub column : ℕ
    pub at : At t (p + clocks) row column
    pub entry : row * wide t + column ≡ j

  pub between : (p n j : ℕ) → pixels_before t p ≤ j → j < pixels_before t (p + n) → Between p n j
  between p zero j h k =
      let e : p + 0 ≡ p = omega arith in
      absurd (omega (arith, ap (pixels_before t) e))
  between p (suc n) j h k = go (dec_lt j (pixels_before t (p + n))) (λ l. between p n j h l)
    where
      longer : Between p n j → Between p (suc n) j
      longer b = record { clocks = b.clocks; fewer = omega (arith, b.fewer); row = b.row; column = b.column; at = b.at; entry = b.entry }

      next-clock : p + n + 1 ≡ p + suc n
      next-clock = omega arith

      last : Shows t (p + n) → pixels_before t (p + n) ≤ j → Between p (suc n) j
      last (pixel r c a e) l =
          record {
            clocks = n;
            fewer = omega arith;
            row = r;
            column = c;
            at = a;
            entry = omega (arith, before-pixel (p + n) r c a, after-pixel (p + n) r c a, ap (pixels_before t) next-clock);
          }
      last (blank none e) l = absurd (omega (arith, after-blank (p + n) none, ap (pixels_before t) next-clock))

      go : Dec (j < pixels_before t (p + n)) → (j < pixels_before t (p + n) → Between p n j) → Between p (suc n) j
      go (yes l) front = longer (front l)
      go (no l) front = last (shows t (p + n)) (omega arith)
