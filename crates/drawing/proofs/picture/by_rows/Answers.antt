-- `drawing::picture::by_rows` meets its contract.
use mathlib.Core.Bool.{Bool, true, ◌&&◌}
use mathlib.Core.Path.{◌≡◌, sym, ap, ap₂, ◌∙◌}
use Prim.Native.Nat.{ℕ, ◌+◌, ◌-◌, ◌*◌, ◌/◌, ◌%◌, ◌≤◌}
use native.Mathlib.Nat.{dvd_of_mod-eq-zero}
use native.Mathlib.Omega.{arith}
use borrow.Author.Tests.{eqb-true, leb-true}
use lib.Dec.{eqb, leb}
use Rattle.laws.specs.BooleanLaws.{both_true}
use Rattle.laws.specs.ProductLaws.{product_le}
use Rattle.registers.specs.declared.Words.{Words}
use Rattle.panel.specs.Geometry.{width, height}
use Rattle.pixels.specs.Format.{format}
use Rattle.pixels.specs.declared.format.Format.{Format}
use Rattle.memory.proofs.Window.{rows-rise}
use Rattle.memory.specs.Memory.{first_word}
use Rattle.memory.specs.declared.Screen.{Screen}
use Rattle.drawing.specs.Core.{Legal, ByRows}
use Rattle.drawing.proofs.Formats.{bits-le, bits-fill, sized-format, begins-word, word-of-bit}
use Rattle.drawing.proofs.picture.by_rows.Goals as goal

-- a later row begins later
rows-begin-later : (s : Screen) (r k : ℕ) → r ≤ k → first_word s r ≤ first_word s k
unfolding first_word
rows-begin-later s r k h = omega (arith, rows-rise s.words r k h)

tested : (s : Screen) (lent : ℕ) (legal : Bool) (bits last : ℕ) → (legal ≡ true → Legal (format s.words))
    → bits ≡ width s.words * (format s.words).bits → last ≡ first_word s (height s.words - 1)
    → (legal && eqb (bits % 32) 0) && leb (last + bits / 32) lent ≡ true → ByRows s lent
tested s lent legal bits last is-legal is-bits is_last e =
    let f = format s.words in
    let outer = both_true (legal && eqb (bits % 32) 0) (leb (last + bits / 32) lent) e in
    let inner = both_true legal (eqb (bits % 32) 0) outer.0 in
    let l = is-legal inner.0 in
    let fill = bits-fill f l.stores in
    let whole = begins-word f.bits l.stores.some fill (width s.words) (ap (λ (k : ℕ). k % 32) (sym is-bits) ∙ eqb-true (bits % 32) 0 inner.1) in
    record {
      legal = l;
      whole = dvd_of_mod-eq-zero _ whole;
      inside = λ r h.
          omega (
            arith,
            rows-begin-later s r (height s.words - 1) (omega arith),
            is_last,
            leb-true (last + bits / 32) lent outer.1,
            ap (λ (k : ℕ). k / 32) is-bits,
            word-of-bit f.bits l.stores.some fill (width s.words),
          );
    }

-- the bits of a row are few
row-bits : (w : Words) (wide : ℕ) (f : Format) → wide ≡ width w → f ≡ format w → wide * f.bits ≤ 2048 * 32
row-bits w wide f is-wide is-f = product_le wide 2048 f.bits 32 (omega (arith, is-wide)) (bits-le f (rw is-f (sized-format w)))

pub overflow_mul-bits : goal.overflow_mul-bits
overflow_mul-bits c = omega (arith, row-bits _ _ _ c.width.ensures c.format_of-f.ensures)

pub legal-requires : goal.legal-requires
legal-requires c = rw c.format_of-f.ensures (sized-format c.args.s.words)

pub overflow_add-result : goal.overflow_add-result
overflow_add-result c = omega (arith, c.first_word-last.ensures.upper_bound, row-bits _ _ _ c.width.ensures c.format_of-f.ensures)

pub returns : goal.returns
returns c on =
    let f = c.format_of-f in
    let a = c.args in
    tested a.s a.lent c.legal.result (c.width.result * f.result.bits) c.first_word-last.result (λ t. rw (← f.ensures) (c.legal.ensures t))
    (ap₂ (λ (i : ℕ) (g : Format). i * g.bits) c.width.ensures f.ensures)
    (c.first_word-last.ensures.value ∙ ap (λ (i : ℕ). first_word a.s (i - 1)) c.height.ensures) on
