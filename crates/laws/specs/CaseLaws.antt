-- What the laws of numbered conditions speak of (§9.2); the laws are in proofs/CaseLaws.
use Rattle.std.specs.Prelude.{◌≡◌, Bool, true, false, cond, ◌&&◌, List, [], ◌∷◌, leb, ltb}
use Prim.Native.Nat.{ℕ}
use Rattle.laws.specs.Cases.{Case, and_where}

-- ---- the first that holds, which is how a program looks for the lowest

-- the number of the first condition that holds, 0 where none does
unfoldable pub first : List Case → ℕ
first [] = 0
first (c ∷ cs) = cond c.holds c.number (first cs)

-- the numbers rise, each above n
abbrev pub ascending : ℕ → List Case → Bool
ascending n [] = true
ascending n (c ∷ cs) = ltb n c.number && ascending c.number cs

-- ---- what acceptance says

-- no condition of the list holds
abbrev pub NoneHolds : List Case → Type 0
NoneHolds [] = Unit
NoneHolds (c ∷ cs) = (c.holds ≡ false) × NoneHolds cs

-- each was asked in its turn, and none gave its number
abbrev pub Passed : List Case → Type 0
Passed [] = Unit
Passed (c ∷ cs) = (0 ≡ cond c.holds c.number 0) × Passed cs

-- the numbers are n at most
abbrev pub up_to : ℕ → List Case → Bool
up_to n [] = true
up_to n (c ∷ cs) = leb c.number n && up_to n cs

-- one after another
abbrev pub through : ℕ → List Case → ℕ
through r [] = r
through r (c ∷ cs) = through (and_where r c.holds c.number) cs
