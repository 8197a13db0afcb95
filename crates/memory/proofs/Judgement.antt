-- 8 after 1 to 7 (§9.2), for a call that does not take the panel where `other` holds.
use mathlib.Core.Bool.{Bool}
use mathlib.Core.List.{[], ◌∷◌, ◌++◌}
use mathlib.Core.Path.{◌≡◌, ◌∙◌}
use Prim.Native.Nat.{ℕ}
use Rattle.laws.specs.Cases.{◌when◌, lowest, and_where}
use Rattle.laws.proofs.CaseLaws.{further}
use Rattle.panel.specs.Refusals.{word_cases_where}
use Rattle.memory.specs.Memory.{outside_memory}
use Rattle.memory.specs.declared.Screen.{Screen}

pub and-8 : (other : Bool) (s : Screen) (lent : ℕ) {to-7 to-8 : ℕ} → to-7 ≡ lowest (word_cases_where other s.words)
    → to-8 ≡ and_where to-7 (outside_memory s lent) 8
    → to-8 ≡ lowest (word_cases_where other s.words ++ (8 when outside_memory s lent ∷ []))
and-8 other s lent {to-7} e f = f ∙ further to-7 7 (word_cases_where other s.words) (8 when outside_memory s lent ∷ []) tt tt e
