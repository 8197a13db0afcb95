-- Laws of the duties (§5.8): what holds of each entry of their table, and when two phases light a level alike (§5.9).
use mathlib.Core.Bool.{Bool}
use mathlib.Core.List.{◌∷◌}
use mathlib.Core.Path.{◌≡◌, sym, ap, ◌∙◌}
use Prim.Native.Nat.{ℕ, ◌+◌, ◌*◌, ◌/◌, ◌%◌, ◌<◌, ◌≤◌}
use native.Mathlib.Nat.{mod-add-div', add-mul-mod_self_right, mod-mod_of_dvd, dvd_of_mod-eq-zero}
use native.Mathlib.Omega.{arith}
use lib.Dec.{T, eqb, ltb, leb, eqb→eq, ltb→lt, leb→le}
use Rattle.laws.specs.BooleanLaws.{and_left, and_right}
use Rattle.laws.specs.TableLaws.{every, every-place-passes}
use Rattle.stn.specs.Greys.{◌of◌, duties, duty, lit}
use Rattle.stn.specs.declared.greys.Duty.{Duty}

-- ---- what holds of each duty

-- a test of the whole table holds of a level's duty
pub each-duty : (p : Duty → Bool) → T (every p ((0 of 1) ∷ duties)) → (level : ℕ) → T (p (duty level))
unfolding duty
each-duty p t level =
    every-place-passes p duties (and_right (p (0 of 1)) (every p duties) t) (0 of 1) (and_left (p (0 of 1)) (every p duties) t) level

pub denominator-pos : (level : ℕ) → 0 < (duty level).d
denominator-pos level = ltb→lt 0 (duty level).d (each-duty (λ q. ltb 0 q.d) tt level)

pub numerator-le : (level : ℕ) → (duty level).n ≤ 6
numerator-le level = leb→le (duty level).n 6 (each-duty (λ q. leb q.n 6) tt level)

-- 420 is a multiple of every denominator
divides-420 : (level : ℕ) → 420 % (duty level).d ≡ 0
divides-420 level = eqb→eq (420 % (duty level).d) 0 (each-duty (λ q. eqb (420 % q.d) 0) tt level)

-- ---- phases alike

by-remainder : (x n d : ℕ) → x * n % d ≡ x % d * n % d
by-remainder x n d =
    ap (λ (y : ℕ). y * n % d) {y = x % d + x / d * d} (sym (mod-add-div' x d))
    ∙ ap (λ (y : ℕ). y % d) {y = x % d * n + x / d * n * d} (omega arith)
    ∙ add-mul-mod_self_right (x % d * n) (x / d * n) d

-- equal remainders by the denominator light a pixel alike
pub lit-alike : (q : Duty) (x y : ℕ) → x % q.d ≡ y % q.d → lit q x ≡ lit q y
unfolding lit
lit-alike q x y e =
    ap (λ (r : ℕ). ltb r q.n)
    (by-remainder x q.n q.d
    ∙ ap (λ (r : ℕ). r * q.n % q.d) e
    ∙ sym (by-remainder y q.n q.d))

-- phases that are the same modulo 420 light every level alike
pub lit-by-420 : (level x y : ℕ) → x % 420 ≡ y % 420 → lit (duty level) x ≡ lit (duty level) y
lit-by-420 level x y e =
    let d = (duty level).d in
    lit-alike (duty level) x y
    (sym (mod-mod_of_dvd d x (dvd_of_mod-eq-zero d (divides-420 level)))
    ∙ ap (λ (z : ℕ). z % d) e
    ∙ mod-mod_of_dvd d y (dvd_of_mod-eq-zero d (divides-420 level)))
