-- The order of refusals is that of their numbers. A reader need not believe it.
use Rattle.std.specs.Prelude.{◌≡◌, ◌<◌, ◌≤◌, ◌⊎◌, ℕ, Bool, true, false, cond, [], ◌∷◌, get_or, ltb, min}
use Rattle.std.proofs.Common.{refl, sym, ap₂, ◌∙◌, arith, inl, inr, Less, Equal, Greater}
use Rattle.std.proofs.Math.Nat.{pos_of_ne-zero}
use Rattle.std.proofs.lemmas.Bool.{cases_lt, lt-ltb, le-ltb}
use Rattle.std.specs.Ordering.{ord_min, int_cmp, is_lt}
use Rattle.laws.specs.Cases.{lower}
use Rattle.laws.proofs.CaseLaws.{lower-min}
use Rattle.registers.specs.declared.refusal.Refusal.{Refusal}
use Rattle.registers.specs.declared.refusal.Refusal.TheVariants.{ReservedBit, OtherPanel, NoSuchMode, IllegalSwap, WrongRowSize, WrongEnd, PastBank, OutsideMemory, VideoOff, WrongLength, OutsidePanel, FieldTooWide, OtherBank, InputLength, PastFrame, ClockTooFast, NoSuchEdition}
use Rattle.registers.specs.Refusals.{number}
use Rattle.registers.proofs.Refusals.{number-some}
use Rattle.registers.specs.contracts.refusal.Refusal.{the_type}
use Rattle.registers.specs.contracts.refusal.RefusalOrd.TheImpl.{cmp-value}
use denote.Enum.Declared.{tag_of}
use lib.IntN.{ℤ, pos}

-- the number that a refusal is declared with
declared : Refusal → ℤ
declared r =
    get_or
    (pos 1 ∷ pos 2 ∷ pos 3 ∷ pos 4 ∷ pos 5 ∷ pos 6 ∷ pos 7 ∷ pos 8 ∷ pos 9 ∷ pos 10 ∷ pos 11 ∷ pos 12 ∷ pos 13 ∷ pos 14 ∷ pos 15 ∷ pos 17 ∷ pos 27 ∷ [])
    (tag_of the_type r) (pos 0)

declared-number : (r : Refusal) → declared r ≡ pos (number r)
unfolding declared
declared-number ReservedBit = refl
declared-number OtherPanel = refl
declared-number NoSuchMode = refl
declared-number IllegalSwap = refl
declared-number WrongRowSize = refl
declared-number WrongEnd = refl
declared-number PastBank = refl
declared-number OutsideMemory = refl
declared-number VideoOff = refl
declared-number WrongLength = refl
declared-number OutsidePanel = refl
declared-number FieldTooWide = refl
declared-number OtherBank = refl
declared-number InputLength = refl
declared-number PastFrame = refl
declared-number ClockTooFast = refl
declared-number NoSuchEdition = refl

by-number : (a b : Refusal) → cmp-value.it a b ≡ int_cmp (pos (number a)) (pos (number b))
unfolding declared
by-number a b = ap₂ int_cmp (declared-number a) (declared-number b)

is-less : (x y : ℕ) → is_lt (int_cmp (pos x) (pos y)) ≡ ltb x y
is-less x y = go (ltb x y) (ltb y x)
  where
    go : (p q : Bool) → is_lt (cond p Less (cond q Greater Equal)) ≡ p
    go true q = refl
    go false true = refl
    go false false = refl

-- the lesser of two refusals has the lower number
pub lesser_number : (a b : Refusal) → number (ord_min cmp-value.it a b) ≡ lower (number a) (number b)
lesser_number a b =
    rw (by-number b a, is-less (number b) (number a)) (go (cases_lt (number b) (number a)) ∙ sym (lower-min (number a) (number b) (some a) (some b)))
  where
    some : (r : Refusal) → 0 < number r
    some r = pos_of_ne-zero (number-some r)

    go : (number b < number a) ⊎ (number a ≤ number b) → number (cond (ltb (number b) (number a)) b a) ≡ min (number a) (number b)
    go (inl l) = rw (lt-ltb (number b) (number a) l) (omega arith)
    go (inr l) = rw (le-ltb (number b) (number a) l) (omega arith)
