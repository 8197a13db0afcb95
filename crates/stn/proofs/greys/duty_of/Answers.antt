-- `stn::greys::duty_of` meets its contract: the table of the code is that of the definition.
-- an entry that is there is the same whatever stands for the others
use mathlib.Core.List.{List, [], ◌∷◌}
use mathlib.Core.Path.{◌≡◌, refl}
use Prim.Native.Nat.{ℕ, zero, suc, ◌<◌}
use native.Mathlib.Nat.{le_of_suc-le-suc, not-suc-le-zero}
use borrow.Author.Rules.{rules}
use lib.ListN.{length, get_or}
use Rattle.stn.specs.Greys.{◌of◌, duties, duty}
use Rattle.stn.specs.declared.greys.Duty.{Duty}
use Rattle.stn.proofs.greys.duty_of.Goals as goal

entry : (qs : List Duty) (k : ℕ) (d e : Duty) → k < length qs → get_or qs k d ≡ get_or qs k e
entry [] k d e h = absurd (not-suc-le-zero h)
entry (x ∷ xs) zero d e h = refl
entry (x ∷ xs) (suc k) d e h = entry xs k d e (le_of_suc-le-suc h)

pub returns : goal.returns
unfolding duty
returns c = entry duties c.args.level _ (0 of 1) (search rules)
