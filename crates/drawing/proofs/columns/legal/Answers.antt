-- `drawing::columns::legal` meets its contract.
-- a swap that is set is legal
use mathlib.Core.Bool.{Bool, true, false, not, ◌&&◌, ◌||◌, true≢false}
use mathlib.Core.Path.{◌≡◌, sym}
use native.Mathlib.Omega.{arith}
use borrow.Author.Tests.{eqb-true, eqb-false, leb-true, not-true}
use lib.Dec.{eqb, leb}
use Rattle.laws.specs.BooleanLaws.{both_true}
use Rattle.pixels.specs.declared.format.Format.{Format}
use Rattle.drawing.specs.Core.{Sized, Legal}
use Rattle.drawing.proofs.columns.legal.Goals as goal

is-legal : (swap legal : Bool) → not swap || legal ≡ true → swap ≡ true → legal ≡ true
is-legal true legal e t = e
is-legal false legal e t = absurd (true≢false (sym t))

tested : (f : Format) → Sized f
    → (not (eqb f.bits 0) && (not f.bswp || leb f.bits 8)) && (not f.hwswp || eqb f.bits 16) ≡ true → Legal f
tested f l e =
    let first = both_true (not (eqb f.bits 0) && (not f.bswp || leb f.bits 8)) (not f.hwswp || eqb f.bits 16) e in
    let second = both_true (not (eqb f.bits 0)) (not f.bswp || leb f.bits 8) first.0 in
    record {
      stores = record { sized = l; some = omega (arith, eqb-false f.bits 0 (not-true (eqb f.bits 0) second.0)) };
      bytes = λ t. leb-true f.bits 8 (is-legal f.bswp (leb f.bits 8) second.1 t);
      halves = λ t. eqb-true f.bits 16 (is-legal f.hwswp (eqb f.bits 16) first.1 t);
    }

pub returns : goal.returns
returns c = tested c.args.f c.requires
