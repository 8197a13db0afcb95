-- `drawing::columns::draw_columns` meets its contract.
use mathlib.Core.Path.{◌≡◌, sym, ap, ◌∙◌}
use mathlib.Core.List.{List}
use Prim.Native.Nat.{ℕ, ◌+◌, ◌-◌, ◌*◌, ◌/◌}
use native.Mathlib.Omega.{arith}
use lib.ListN.{length, get_or, take, drop, length-take, length-drop, get_or-replicate}
use Rattle.pixels.specs.Pixel.{shown}
use Rattle.drawing.proofs.Formats.{temporary-colour, shown-colour}
use Rattle.drawing.proofs.Parts.{pixels-of-words, words-lent, pixel-of-words}
use Rattle.drawing.proofs.columns.draw_columns.Goals as goal

pub slice_bounds-draw_words-end : goal.slice_bounds-draw_words-end
slice_bounds-draw_words-end c = words-lent _ _ _ _ _ c.requires

pub draw_words-requires : goal.draw_words-requires
draw_words-requires c =
    let a = c.args in
    let from = a.base + a.column * a.f.bits / 32 in
    let n = length a.out.now * a.f.bits / 32 in
    let many : length (take (from + n - from) (drop from a.video.now)) ≡ n =
    omega (arith, words-lent _ _ _ _ _ c.requires, length-take (from + n - from) (drop from a.video.now), length-drop from a.video.now) in
    (c.requires.legal, sym (ap (λ (k : ℕ). k * (32 / a.f.bits)) many ∙ pixels-of-words _ _ _ _ _ c.requires))

pub returns-then-f : goal.returns-then-f
returns-then-f c i h =
    ap (λ (s : List ℕ). get_or s i 0) (c.fill.ensures.after (λ y e. e))
    ∙ get_or-replicate (length c.args.out.now) i c.args.f.tpalval 0 (omega (arith, c.fill.ensures.len))
    ∙ sym (temporary-colour c.args.f _ _ _ _ c.if-f.true)

pub returns-else-f : goal.returns-else-f
returns-else-f c i h =
    c.draw_words.ensures i h
    ∙ ap (shown c.args.f _) (pixel-of-words _ _ _ _ _ c.requires i _ (omega arith) (omega arith))
    ∙ sym (shown-colour c.args.f _ _ _ _ c.if-f.false)
