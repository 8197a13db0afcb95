-- `stn::rows::draw_rows` meets its contract: a row a turn.
use mathlib.Core.Bool.{Bool}
use mathlib.Core.Path.{◌≡◌, sym, ap, ap₂, ◌∙◌}
use Prim.Native.Nat.{ℕ, ◌+◌, ◌-◌, ◌*◌, ◌/◌, ◌<◌, ◌≤◌}
use native.Mathlib.Nat.{add-mul}
use native.Mathlib.Omega.{arith}
use lib.Dec.{eqb}
use lib.ListN.{length}
use Rattle.std.specs.List.{between}
use Rattle.std.specs.Option.{is_none}
use Rattle.laws.specs.StoringLaws.{none-stored, some_more, so-many-stored}
use Rattle.panel.specs.Geometry.{height}
use Rattle.memory.specs.declared.Screen.{Screen}
use Rattle.registers.specs.Fields.{pagewidth}
use Rattle.stn.specs.Core.{ByRows, bits_in, bytes_of, mono}
use Rattle.stn.specs.Drawing.{row_bytes}
use Rattle.stn.specs.Greys.{row_byte}
use Rattle.stn.proofs.FrameBytes.{row-in-frame, byte-of-frame, byte-by-phase}
use Rattle.stn.proofs.Parts.{part-filled, same-alone}
use Rattle.stn.proofs.rows.draw_rows.Goals as goal

-- a row's words fill its bytes, by the mode and PAGEWIDTH that were read
filled : (s : Screen) (lent words : ℕ) (m : Bool) → ByRows s lent → m ≡ mono s.words → words ≡ pagewidth s.words
    → bytes_of m (words / 2) ≡ row_bytes s.words
filled s lent words m rows e f = ap₂ (λ (k : Bool) (n : ℕ). bytes_of k (n / 2)) e f ∙ rows.whole

pub loop-row-init : goal.loop-row-init
loop-row-init c = so-many-stored _ _ _ _ _ (none-stored _ _ _) _ (omega arith)

pub loop-row-preserved : goal.loop-row-preserved
loop-row-preserved c =
    let a = c.args in
    let row = c.loop-row.row in
    let now = c.loop-row.invariant in
    let m = is_none a.patterns in
    let swap = eqb c.bswp-bswp.result 1 in
    let from = c.first_word-from.result in
    let phase = c.new.result.number in
    let words = c.pagewidth.result / 2 in
    let at = row * c.row_bytes-bytes.result in
    let n = at + c.row_bytes-bytes.result - at in
    let inside : row < height a.s.words = omega (arith, c.loop-row-test.true, c.height-row-end.ensures) in
    let filled = filled a.s _ _ _ c.requires.0 c.requires.1 c.pagewidth.ensures in
    let place : at ≡ row * row_bytes a.s.words = ap (λ (k : ℕ). row * k) c.row_bytes-bytes.ensures.value in
    let bytes : n ≡ row_bytes a.s.words = omega (arith, c.row_bytes-bytes.ensures.value) in
    let room : at + n ≤ length c.loop-row.out = omega (arith, place, bytes, now.size, c.requires.2, row-in-frame a.s.words row inside) in
    let line =
    part-filled (row_byte (bits_in m) swap (between from (from + words) a.video.now) 0 phase)
    (row_byte (bits_in m) swap a.video.now from phase) at n c.loop-row.out c.draw_row.new.out c.draw_row.ensures room
    (λ j h. same-alone m swap a.video.now from words phase j (omega (arith, h, bytes, filled))) in
    so-many-stored _ _ _ _ _
    (some_more _ _ _ _ _ now _ _ _ _ line (omega (arith, place))
    (λ j h.
    byte-by-phase a.s a.video.now a.frame row (bits_in m) swap from phase j
    (ap bits_in c.requires.1 ∙ sym c.requires.0.bits)
    (ap (λ (k : ℕ). eqb k 1) c.bswp-bswp.ensures)
    c.first_word-from.ensures.value
    c.new.ensures
    ∙ sym (byte-of-frame a.s a.video.now a.frame row j (omega (arith, h, bytes)))))
    _ (omega (arith, bytes, add-mul row 1 (row_bytes a.s.words)))
