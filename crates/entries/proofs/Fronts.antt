-- The front of a slice that holds 34 entries has the same fields (§10.2).
use Rattle.std.proofs.Common.{Bool, true, false, cond, List, ℕ, ◌≡◌, refl, ltb, get_or, get_or-take, take, arith}
use Rattle.std.proofs.Math.ListN.{get_or-eq_default}
use Rattle.std.proofs.lemmas.Bool.{ltb-true, ltb-false}
use Rattle.std.proofs.lemmas.List.{length-take}
use Rattle.entries.specs.Order.{fields_in}

front-entry : (n : ℕ) (s : List ℕ) (i : ℕ) → get_or (take n s) i 0 ≡ cond (ltb i n) (get_or s i 0) 0
front-entry n s i = go (ltb i n) refl
  where
    go : (b : Bool) → ltb i n ≡ b → get_or (take n s) i 0 ≡ cond b (get_or s i 0) 0
    go true e = get_or-take n s i 0 (ltb-true i n e)
    go false e = get_or-eq_default (take n s) 0 (omega (arith, length-take n s, ltb-false i n e))

pub front-fields : (s : List ℕ) → fields_in (take 34 s) ≡ fields_in s
front-fields s = simp front-entry
