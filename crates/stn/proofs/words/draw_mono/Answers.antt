-- `stn::words::draw_mono` meets its contract: four bytes a turn.
use Rattle.std.specs.Prelude.{List, ◌≡◌, ℕ, zero, suc, ◌+◌, ◌-◌, ◌*◌, ◌<◌, get_or}
use Rattle.std.proofs.Common.{◌∙◌, arith}
use Rattle.std.specs.Int.{to_be_bytes, w32}
use Rattle.laws.specs.StoringLaws.{none-stored, some_more, so-many-stored, all-stored}
use Rattle.pixels.specs.Order.{pixel_bits}
use Rattle.laws.proofs.PartLaws.{part-stored}
use Rattle.stn.proofs.RowBytes.{byte-of-mono}
use Rattle.stn.proofs.words.draw_mono.Goals as goal

-- the highest byte first
byte-of-word : (x : ℕ) (part : List ℕ) → part ≡ to_be_bytes w32 x → (b : ℕ) → b < 4 → get_or part b 0 ≡ pixel_bits 8 x b
unfolding pixel_bits
byte-of-word x part e zero h = rw e
byte-of-word x part e (suc zero) h = rw e
byte-of-word x part e (suc (suc zero)) h = rw e
byte-of-word x part e (suc (suc (suc zero))) h = rw e (omega arith)
byte-of-word x part e (suc (suc (suc (suc b)))) h = absurd (omega arith)

pub loop-i-init : goal.loop-i-init
loop-i-init c = none-stored _ _ _

pub loop-i-preserved : goal.loop-i-preserved
loop-i-preserved c =
    let a = c.args in
    let now = c.loop-i in
    let word = byte-of-word c.in_order.result _ (c.copy_from_slice.ensures.after ∙ c.to_be_bytes-bytes.ensures) in
    let bytes =
    part-stored (pixel_bits 8 c.in_order.result) (4 * now.i) (4 * now.i + 4 - 4 * now.i) now.out c.copy_from_slice.new.self
    (omega arith) (omega (arith, c.copy_from_slice.ensures.len)) (λ b h. word b (omega arith)) in
    so-many-stored _ _ _ _ _
    (some_more _ _ _ _ _ now.invariant _ _ _ _ bytes (omega arith)
    (λ b h. byte-of-mono a.bswp a.words.now 0 now.i b _ (omega arith) c.in_order.ensures))
    _ (omega arith)

pub returns : goal.returns
returns c = all-stored _ _ _ _ _ c.loop-i.invariant _ (omega arith)
