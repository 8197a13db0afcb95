-- `drawing::table::indices` meets its contract.
use mathlib.Core.Bool.{true, false, not, true≢false}
use mathlib.Core.Path.{◌≡◌, refl, sym, ◌∙◌}
use Prim.Native.Nat.{ℕ, ◌*◌, ◌%◌, ◌^◌, ◌≤◌}
use native.Mathlib.Nat.{one-mul}
use native.Mathlib.Omega.{arith}
use borrow.Author.Tests.{leb-true, le-leb}
use lib.Dec.{lit<, leb}
use lib.Pow.{shl_exact, pow_mono}
use Rattle.laws.specs.BooleanLaws.{both_true}
use Rattle.pixels.specs.declared.format.Format.{Format}
use Rattle.drawing.specs.Core.{looked_up}
use Rattle.drawing.proofs.table.indices.Goals as goal

shifted : (k : ℕ) → k ≤ 8 → (1 * 2 ^ k) % 2 ^ 64 ≡ 2 ^ k
shifted k h = shl_exact 1 k 64 (lit< tt) (omega arith) ∙ one-mul (2 ^ k)

few : (f : Format) → looked_up f ≡ true → f.bits ≤ 8
few f e = leb-true f.bits 8 (both_true (leb f.bits 8) (not f.tpalen) e).0

none : (f : Format) → looked_up f ≡ false → f.tpalen ≡ false → f.bits ≤ 8 → ⊥
none f e off h = true≢false (sym (rw (le-leb f.bits 8 h, off) refl) ∙ e)

pub overflow_shl-result : goal.overflow_shl-result
overflow_shl-result c = omega (arith, few c.args.f (sym c.looked_up.ensures ∙ c.if-looked_up.true))

pub returns-then-looked_up : goal.returns-then-looked_up
returns-then-looked_up c =
    let bits-le = few c.args.f (sym c.looked_up.ensures ∙ c.if-looked_up.true) in
    let k = c.args.f.bits in
    (λ off h. shifted k bits-le, omega (arith, shifted k bits-le, pow_mono {j = 8} bits-le))

pub returns : goal.returns
returns c =
    (λ off h. absurd (none c.args.f (sym c.looked_up.ensures ∙ c.if-looked_up.false) off h), omega arith)
