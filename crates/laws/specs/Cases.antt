-- A call's judgement: a list of cases, each a condition with its number (§9.1), of which the lowest that holds is given (§9.2). Lists
-- join by ++. Promises cite these definitions, so a reader must believe them; their laws are in CaseLaws.
use Rattle.std.specs.Prelude.{Bool, cond, List, [], ◌∷◌, ℕ, zero, suc, min}

pub record Case : Type 0 where
  pub number : ℕ
  pub holds : Bool

infix 70 ◌when◌
abbrev pub ◌when◌ : ℕ → Bool → Case
n when b = record { number = n; holds = b }

-- the lower of two refusal numbers, where 0 is no refusal
unfoldable pub lower : ℕ → ℕ → ℕ
lower zero n = n
lower (suc m) zero = suc m
lower (suc m) (suc n) = min (suc m) (suc n)

-- the lowest number whose condition holds, 0 where none does (§9.2)
unfoldable pub lowest : List Case → ℕ
lowest [] = 0
lowest (c ∷ cs) = cond c.holds (lower c.number (lowest cs)) (lowest cs)

-- one more condition: the number r so far, or where that is 0 the number n if b holds
unfoldable pub and_where : ℕ → Bool → ℕ → ℕ
and_where zero b n = cond b n 0
and_where (suc r) b n = suc r
