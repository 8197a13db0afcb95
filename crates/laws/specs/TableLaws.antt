-- A rule of a table, or of the numbers below a bound, proved at every entry by one test that antt computes. A reader need not believe
-- it.
use Rattle.std.specs.Prelude.{Bool, true, ◌&&◌, List, [], ◌∷◌, ◌≡◌, ℕ, zero, suc, ◌<◌, T, length, get_or}
use Rattle.std.proofs.Math.Decide.{ℕ_discrete}
use Rattle.std.proofs.Common.{le_of_suc-le-suc, not-suc-le-zero, arith}
use Rattle.laws.specs.BooleanLaws.{and_left, and_right}

-- the test passes at each entry
abbrev pub every : {A : Type 0} → (A → Bool) → List A → Bool
every p [] = true
every p (x ∷ xs) = p x && every p xs

pub entry-passes : (p : ℕ → Bool) (xs : List ℕ) → T (every p xs) → (k : ℕ) → k < length xs → T (p (get_or xs k 0))
entry-passes p [] t k h = absurd (not-suc-le-zero h)
entry-passes p (x ∷ xs) t zero h = and_left (p x) (every p xs) t
entry-passes p (x ∷ xs) t (suc k) h = entry-passes p xs (and_right (p x) (every p xs) t) k (le_of_suc-le-suc h)

-- and at every place, where it passes at the entry that stands for those past the end
pub every-place-passes : {A : Type 0} (p : A → Bool) (xs : List A) → T (every p xs) → (d : A) → T (p d) → (k : ℕ)
    → T (p (get_or xs k d))
every-place-passes p [] t d u k = u
every-place-passes p (x ∷ xs) t d u zero = and_left (p x) (every p xs) t
every-place-passes p (x ∷ xs) t d u (suc k) = every-place-passes p xs (and_right (p x) (every p xs) t) d u k

-- the test passes at each number below n
abbrev pub all_below : ℕ → (ℕ → Bool) → Bool
all_below zero p = true
all_below (suc n) p = p n && all_below n p

pub number-passes : (n : ℕ) (p : ℕ → Bool) → T (all_below n p) → (i : ℕ) → i < n → T (p i)
number-passes zero p t i h = absurd (not-suc-le-zero h)
number-passes (suc n) p t i h = go (ℕ_discrete i n) (number-passes n p (and_right (p n) (all_below n p) t) i)
  where
    go : Dec (i ≡ n) → (i < n → T (p i)) → T (p i)
    go (yes e) below = rw e (and_left (p n) (all_below n p) t)
    go (no ne) below = below (omega arith)
