-- `drawing::picture::draw_parts` meets its contract: three parts, one after the other.
use mathlib.Core.List.{◌++◌}
use mathlib.Core.Path.{◌≡◌, ap, ◌∙◌, subst}
use Prim.Native.Nat.{ℕ, ◌+◌, ◌-◌, ◌*◌, ◌/◌, ◌%◌, ◌≤◌, ◌∣◌}
use native.Mathlib.Nat.{mod-lt, mod-le}
use native.Mathlib.Omega.{arith}
use borrow.Rule.Slice.PartMut.{put_mid}
use lib.ListN.{length, take, drop, length-take, length-drop}
use Rattle.panel.specs.Geometry.{width}
use Rattle.pixels.specs.Format.{format}
use Rattle.pixels.specs.declared.format.Format.{Format}
use Rattle.drawing.specs.Colour.{contents}
use Rattle.drawing.specs.Drawing.{colour_in_order}
use Rattle.drawing.specs.Core.{Legal, per_word}
use Rattle.drawing.proofs.Formats.{bits-fill, past_word}
use Rattle.drawing.proofs.Parts.{word-begins, words_left}
use Rattle.drawing.proofs.Shown.{part-length, part-shown}
use Rattle.drawing.proofs.picture.draw_parts.Goals as goal

-- where a word begins by the format and width that were read, one begins by those of the words
aligned : (f g : Format) → f ≡ g → (m k : ℕ) → m ≡ k → (first t : ℕ) → (first % m + t) % per_word f ≡ 0 → (first % k + t) % per_word g ≡ 0
aligned f g e m k e' first t h = rw (← e, ← e') h

-- what is known of the format that was read
module _ (f : Format) (g : Format) (n : ℕ) (e : f ≡ g) (l : Legal g) where
  legal : Legal f
  legal = rw e l

  -- the pixels past the last whole word
  tail-is : n * f.bits % 32 / f.bits ≡ n % per_word g
  tail-is = past_word f.bits legal.stores.some (bits-fill f legal.stores) n ∙ ap (λ (h : Format). n % per_word h) e

  tail-le : n * f.bits % 32 / f.bits ≤ n
  tail-le = rw tail-is (mod-le _ _)

pub to_next_word-requires : goal.to_next_word-requires
to_next_word-requires c =
    let l = legal _ _ 0 c.format_of-f.ensures c.requires.0.legal in (
      l.stores.some,
      bits-fill _ l.stores,
      omega (arith, c.width.ensures, mod-lt c.args.first {m = c.width.result} (omega arith)),
    )

-- the rows begin and end with a word
pub draw_rows-requires : goal.draw_rows-requires
draw_rows-requires c =
    let a = c.args in
    let t = c.to_next_word in
    let head = c.min-head.result in
    let n = length a.out.now in
    let f = c.format_of-f.result in
    let end = n - (n - head) * f.bits % 32 / f.bits in
    let one = c.draw_few.new.out ++ drop head a.out.now in
    let size : length one ≡ n = part-length 0 head a.out.now c.draw_few.new.out c.draw_few.auto.out (omega arith) in
    let many : length (take (end - head) (drop head one)) ≡ end - head =
    omega (arith, size, length-take (end - head) (drop head one), length-drop head one) in (
      c.requires.0,
      record {
        begins = λ some.
            subst (λ (k : ℕ). per_word (format a.s.words) ∣ a.first + k) (omega (arith, some, many, c.min-head.ensures))
            (word-begins _ (width a.s.words) a.first t.result c.requires.0.whole
            (aligned _ _ c.format_of-f.ensures _ _ c.width.ensures _ _ t.ensures.bits_value));
        whole =
            subst (λ (k : ℕ). per_word (format a.s.words) ∣ k)
            (omega (arith, many, tail-is _ _ (n - head) c.format_of-f.ensures c.requires.0.legal))
            (words_left (per_word (format a.s.words)) (n - head));
      },
      omega (arith, many),
    )

pub returns : goal.returns
returns c i h =
    let a = c.args in
    let head = c.min-head.result in
    let n = length a.out.now in
    let f = c.format_of-f.result in
    let end = n - (n - head) * f.bits % 32 / f.bits in
    let tail-le = tail-le f _ (n - head) c.format_of-f.ensures c.requires.0.legal in
    let one = put_mid 0 head a.out.now c.draw_few.new.out in
    let two = put_mid head (end - head) one c.draw_rows.new.out in
    let one-size : length one ≡ n = part-length 0 head a.out.now _ c.draw_few.auto.out (omega arith) in
    let two-size : length two ≡ n = part-length head (end - head) one _ c.draw_rows.auto.out (omega arith) ∙ one-size in
    let g = λ (k : ℕ). colour_in_order a.s (contents a.lent) (a.first + k) in
    let first = part-shown g a.out.now 0 (λ j l. absurd (omega arith)) head _ c.draw_few.auto.out (omega arith) _ c.draw_few.ensures (λ k l. ap g (omega arith)) in
    let second = part-shown g one head (λ j l. first j (omega (arith, l))) (end - head) _ c.draw_rows.auto.out (omega arith) _ c.draw_rows.ensures
    (λ k l. ap (colour_in_order a.s (contents a.lent)) (omega arith)) in
    part-shown g two end (λ j l. second j (omega (arith, l))) (length two - end) _ c.draw_few-2.auto.out (omega arith) _ c.draw_few-2.ensures
    (λ k l. ap (colour_in_order a.s (contents a.lent)) (omega arith)) i
    (omega (arith, h, part-length end (length two - end) two _ c.draw_few-2.auto.out (omega arith)))
