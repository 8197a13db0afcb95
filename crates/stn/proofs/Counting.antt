-- How often a level is lit (§5.8, §5.9): at n of any d phases in a row.
use mathlib.Core.Bool.{Bool}
use mathlib.Core.Path.{◌≡◌, refl, sym, ap₂, ◌∙◌}
use Prim.Native.Nat.{ℕ, zero, suc, ◌+◌, ◌%◌, ◌<◌}
use native.Mathlib.Nat.{mod-lt, mod-add-mod}
use native.Mathlib.Omega.{arith}
use lib.Dec.{eqb, eqb→eq}
use Rattle.laws.specs.TableLaws.{all_below, number-passes}
use Rattle.stn.specs.Greys.{bit, duty, lit}
use Rattle.stn.specs.OverFrames.{count_below}
use Rattle.stn.specs.declared.greys.Duty.{Duty}
use Rattle.stn.proofs.Duties.{each-duty, denominator-pos, lit-alike}

pub count_same : (n : ℕ) (p q : ℕ → Bool) → ((i : ℕ) → i < n → p i ≡ q i) → count_below n p ≡ count_below n q
unfolding count_below
count_same zero p q e = refl
count_same (suc n) p q e =
    ap₂ (λ (m : ℕ) (b : Bool). m + bit b) (count_same n p q (λ i h. e i (omega arith))) (e n (omega arith))

-- the phases in which a pixel is lit, of the d from x on
abbrev lit_from : Duty → ℕ → ℕ
lit_from q x = count_below q.d (λ i. lit q (x + i))

-- from each remainder by d on there are n: one test of the whole table
by-test : (level x : ℕ) → x < (duty level).d → lit_from (duty level) x ≡ (duty level).n
unfolding count_below lit
by-test level x h =
    eqb→eq (lit_from (duty level) x) (duty level).n
    (number-passes (duty level).d (λ r. eqb (lit_from (duty level) r) (duty level).n)
    (each-duty (λ q. all_below q.d (λ r. eqb (lit_from q r) q.n)) tt level) x h)

-- so there are n of any d in a row
pub lit-n-of-d : (level x : ℕ) → count_below (duty level).d (λ i. lit (duty level) (x + i)) ≡ (duty level).n
lit-n-of-d level x =
    let q = duty level in
    let d = q.d in
    count_same d (λ i. lit q (x + i)) (λ i. lit q (x % d + i))
    (λ i h. lit-alike q (x + i) (x % d + i) (sym (mod-add-mod x d i)))
    ∙ by-test level (x % d) (mod-lt x (denominator-pos level))
