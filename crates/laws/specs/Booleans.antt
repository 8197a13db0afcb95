-- Whether one of several tests holds. Promises cite these definitions, so a reader must believe them; laws of tests are in BooleanLaws.
use Rattle.std.specs.Prelude.{Bool, false, ◌||◌, List, [], ◌∷◌, ℕ, zero, suc}

-- one of the tests is true
abbrev pub any : List Bool → Bool
any [] = false
any (b ∷ bs) = b || any bs

-- some number below n passes the test
unfoldable pub some_below : ℕ → (ℕ → Bool) → Bool
some_below zero p = false
some_below (suc n) p = p n || some_below n p
