-- What an accepted drawing's judgement (§9.3) says of the rows in memory and of the slice that is drawn to.
use mathlib.Core.Bool.{Bool}
use mathlib.Core.List.{[], ◌∷◌}
use mathlib.Core.Path.{◌≡◌, sym, ap, subst}
use Prim.Native.Nat.{ℕ, ◌/◌, ◌<◌, ◌≤◌, ◌∣◌}
use native.Mathlib.Nat.{dvd-mul_left, mul-div_cancel}
use native.Mathlib.Omega.{arith}
use borrow.Author.Tests.{ltb-false, leb-false}
use Rattle.laws.specs.BooleanLaws.{or-false-right}
use Rattle.laws.specs.Cases.{◌when◌, lowest}
use Rattle.laws.specs.CaseLaws.{NoneHolds}
use Rattle.laws.proofs.CaseLaws.{both-pass}
use Rattle.panel.specs.Geometry.{width, height}
use Rattle.panel.specs.Refusals.{word_cases, judge}
use Rattle.panel.proofs.Accepted.{Accepted, accepted-words, pixels-in-row}
use Rattle.pixels.specs.Format.{format}
use Rattle.registers.specs.Loading.{too_short}
use Rattle.memory.specs.Memory.{row_words, outside_memory, memory_cases}
use Rattle.memory.specs.declared.Screen.{Screen}
use Rattle.memory.proofs.Window.{row-words-lent}
use Rattle.drawing.specs.Core.{per_word, ByRows}
use Rattle.drawing.specs.Drawing.{palette_wrong, row_outside, pixels, colour_tail, drawing_cases, judge_drawing, judge_row, judge_picture}
use Rattle.drawing.proofs.Formats.{bits-fill, per-word-pos, legal-format}

-- that slice is long enough
room-judged : (s : Screen) (lent entries room needed : ℕ) → judge_drawing s lent entries (too_short room needed) ≡ 0 → needed ≤ room
unfolding judge_drawing too_short
room-judged s lent entries room needed e =
    ltb-false room needed
    (or-false-right (palette_wrong entries) (too_short room needed)
    (both-pass (memory_cases s lent) (colour_tail s.words entries (too_short room needed)) tt tt e).1.1.0)

-- 1 to 8 accept the screen: its rows lie in the memory
module _ (s : Screen) (lent : ℕ) (e : lowest (memory_cases s lent) ≡ 0) where
  cases : (lowest (word_cases s.words) ≡ 0) × NoneHolds (8 when outside_memory s lent ∷ [])
  cases = both-pass (word_cases s.words) (8 when outside_memory s lent ∷ []) tt tt e

  words-pass : judge s.words ≡ 0
  unfolding judge
  words-pass = cases.0

  a : Accepted s.words
  a = accepted-words s.words words-pass

  pub rows-accepted : ByRows s lent
  unfolding format
  rows-accepted =
      let per-row = pixels-in-row s.words a in
      let legal = legal-format s.words words-pass in
      record {
        legal = legal;
        whole = subst (λ (k : ℕ). per_word (format s.words) ∣ k) (sym per-row) (dvd-mul_left (per_word (format s.words)) (row_words s.words));
        inside = λ r h.
            omega (
              arith,
              row-words-lent s lent a.laid cases.1.0 r h,
              ap (λ (k : ℕ). k / per_word (format s.words)) per-row,
              mul-div_cancel (row_words s.words)
                  (per-word-pos (format s.words).bits legal.stores.some (bits-fill (format s.words) legal.stores)),
            );
      }

-- an accepted drawing has passed 1 to 8
screen-judged : (s : Screen) (lent entries : ℕ) (short : Bool) → judge_drawing s lent entries short ≡ 0 → lowest (memory_cases s lent) ≡ 0
unfolding judge_drawing
screen-judged s lent entries short e = (both-pass (memory_cases s lent) (colour_tail s.words entries short) tt tt e).0

drawing-of-row : (s : Screen) (lent entries r room : ℕ) → judge_row s lent entries r room ≡ 0
    → judge_drawing s lent entries (too_short room (width s.words)) ≡ 0
unfolding judge_row judge_drawing
drawing-of-row s lent entries r room e =
    (both-pass (drawing_cases s lent entries (too_short room (width s.words))) (11 when row_outside s.words r ∷ []) tt tt e).0

pub rows-of-row : (s : Screen) (lent entries r room : ℕ) → judge_row s lent entries r room ≡ 0 → ByRows s lent
rows-of-row s lent entries r room e =
    rows-accepted s lent (screen-judged s lent entries (too_short room (width s.words)) (drawing-of-row s lent entries r room e))

pub row-on-panel : (s : Screen) (lent entries r room : ℕ) → judge_row s lent entries r room ≡ 0 → r < height s.words
unfolding judge_row judge_drawing row_outside
row-on-panel s lent entries r room e =
    leb-false (height s.words) r
    (both-pass (drawing_cases s lent entries (too_short room (width s.words))) (11 when row_outside s.words r ∷ []) tt tt e).1.0

pub rows-of-picture : (s : Screen) (lent entries room : ℕ) → judge_picture s lent entries room ≡ 0 → ByRows s lent
unfolding judge_picture
rows-of-picture s lent entries room e =
    rows-accepted s lent (screen-judged s lent entries (too_short room (pixels s.words)) e)

pub row-has-room : (s : Screen) (lent entries r room : ℕ) → judge_row s lent entries r room ≡ 0 → width s.words ≤ room
row-has-room s lent entries r room e =
    room-judged s lent entries room (width s.words) (drawing-of-row s lent entries r room e)

pub picture-has-room : (s : Screen) (lent entries room : ℕ) → judge_picture s lent entries room ≡ 0 → pixels s.words ≤ room
unfolding judge_picture
picture-has-room s lent entries room e = room-judged s lent entries room (pixels s.words) e
