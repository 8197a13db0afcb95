-- `drawing::table::fill_table` meets its contract.
use mathlib.Core.List.{List}
use mathlib.Core.Path.{◌≡◌, ap, ◌∙◌}
use Prim.Native.Nat.{ℕ, ◌≤◌, ◌<◌}
use native.Mathlib.Omega.{arith}
use lib.ListN.{length, get_or, replicate, length-replicate, length-take, get_or-replicate, get_or-eq_default}
use Rattle.std.proofs.Common.{◌⊎◌, inl, inr}
use Rattle.std.proofs.lemmas.Bool.{cases_lt}
use Rattle.pixels.specs.Colours.{expanded, expanded565, expanded5551}
use Rattle.pixels.specs.Pixel.{indexed}
use Rattle.pixels.specs.declared.colours.Expansion.{Expansion}
use Rattle.pixels.specs.declared.colours.Expansion.TheVariants.{Rgb565, Rgb5551}
use Rattle.pixels.specs.declared.format.Format.{Format}
use Rattle.drawing.proofs.table.fill_table.Goals as goal

-- an entry that is not lent counts as 0, and its colour is black
black : (e : Expansion) (palette : List ℕ) (v : ℕ) → length palette ≤ v → 0 ≡ expanded e (get_or palette v 0)
unfolding expanded expanded565 expanded5551
black Rgb565 palette v h = rw (get_or-eq_default palette 0 {n = v} h)
black Rgb5551 palette v h = rw (get_or-eq_default palette 0 {n = v} h)

-- a table of zeros
zeros : (n k : ℕ) → get_or {A = ℕ} (replicate n 0) k 0 ≡ 0
zeros n k = go (cases_lt k n)
  where
    go : (k < n) ⊎ (n ≤ k) → get_or {A = ℕ} (replicate n 0) k 0 ≡ 0
    go (inl l) = get_or-replicate n k 0 0 l
    go (inr l) = get_or-eq_default (replicate n 0) 0 {n = k} (omega (arith, length-replicate {A = ℕ} n 0))

-- the first m entries have their colours, and the others are 0
filled : (f : Format) (palette table : List ℕ) (m v : ℕ) → ((k : ℕ) → k < m → get_or table k 0 ≡ indexed f palette k)
    → ((k : ℕ) → m ≤ k → get_or table k 0 ≡ 0) → (m ≤ v → length palette ≤ v) → get_or table v 0 ≡ indexed f palette v
filled f palette table m v expands rest far = go (cases_lt v m)
  where
    go : (v < m) ⊎ (m ≤ v) → get_or table v 0 ≡ indexed f palette v
    go (inl l) = expands v l
    go (inr l) = rest v l ∙ black f.expansion palette v (far l)

pub loop-v-init : goal.loop-v-init
loop-v-init c = (λ k h. absurd (omega arith), λ k h. ap (λ (t : List ℕ). get_or t k 0) c.requires ∙ zeros 256 k)

pub returns : goal.returns
returns c =
    record {
      entry = λ off v few h.
          filled c.args.f _ _ _ v c.loop-v.invariant.0 c.loop-v.invariant.1
          (λ l. omega (arith, c.indices.ensures.0 off few, length-take c.min-n.result c.args.palette.now));
    }
