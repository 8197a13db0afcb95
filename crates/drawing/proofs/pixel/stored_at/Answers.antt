-- `drawing::pixel::stored_at` meets its contract.
use mathlib.Core.Path.{◌≡◌}
use Prim.Native.Nat.{ℕ, ◌*◌, ◌≤◌}
use native.Mathlib.Omega.{arith}
use Rattle.laws.specs.ProductLaws.{product_le}
use Rattle.pixels.specs.declared.format.Format.{Format}
use Rattle.drawing.specs.Core.{Sized, Stores}
use Rattle.drawing.proofs.Formats.{bits-le, cut-pixel, cut_inside, none-stored-bits}
use Rattle.drawing.proofs.pixel.stored_at.Goals as goal

bit_le : (f : Format) → Sized f → (column : ℕ) → column ≤ 4294967296 → column * f.bits ≤ 4294967296 * 32
bit_le f sized column h = product_le column 4294967296 f.bits 32 h (bits-le f sized)

some-stored : (f : Format) → Sized f → (f.bits ≡ 0 → ⊥) → Stores f
some-stored f sized ne = record { sized = sized; some = omega (arith, ne) }

pub returns-then-bits-eq0 : goal.returns-then-bits-eq0
returns-then-bits-eq0 c =
    let a = c.args in
    none-stored-bits a.f a.video.now a.base a.column c.if-bits-eq0.true

pub overflow_mul-bit : goal.overflow_mul-bit
overflow_mul-bit c =
    omega (arith, bit_le c.args.f c.requires.0 c.args.column (omega (arith, c.requires.2)))

pub overflow_add-base : goal.overflow_add-base
overflow_add-base c =
    omega (arith, bit_le c.args.f c.requires.0 c.args.column (omega (arith, c.requires.2)), c.requires.1)

pub bits_past-requires : goal.bits_past-requires
bits_past-requires c =
    let stores = some-stored c.args.f c.requires.0 c.if-bits-eq0.false in
    (stores.some, cut_inside c.args.f stores c.args.column)

pub returns : goal.returns
returns c =
    let stores = some-stored c.args.f c.requires.0 c.if-bits-eq0.false in
    let a = c.args in
    cut-pixel a.f stores a.video.now a.base a.column _ _
    (rw (← c.word_at.ensures) c.in_order-x.ensures) c.bits_past.ensures
