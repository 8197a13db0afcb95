-- The refusals by their numbers (§9.1), and what a call answers: its value, or a refusal. Promises cite it, so a reader must believe it.
use Rattle.std.specs.Prelude.{ℕ, Result, Ok, Err}
use Rattle.laws.specs.Answers.{Answer, accepted, refused}
use Rattle.registers.specs.declared.refusal.Refusal.{Refusal}
use Rattle.registers.specs.declared.refusal.Refusal.TheVariants.{ReservedBit, OtherPanel, NoSuchMode, IllegalSwap, WrongRowSize, WrongEnd, PastBank, OutsideMemory, VideoOff, WrongLength, OutsidePanel, FieldTooWide, OtherBank, InputLength, PastFrame, ClockTooFast, NoSuchEdition}

-- its number (§9.1)
abbrev pub number : Refusal → ℕ
number ReservedBit = 1
number OtherPanel = 2
number NoSuchMode = 3
number IllegalSwap = 4
number WrongRowSize = 5
number WrongEnd = 6
number PastBank = 7
number OutsideMemory = 8
number VideoOff = 9
number WrongLength = 10
number OutsidePanel = 11
number FieldTooWide = 12
number OtherBank = 13
number InputLength = 14
number PastFrame = 15
number ClockTooFast = 17
number NoSuchEdition = 27

-- what a call answers, as a value or the number of a refusal
abbrev pub answer : {A : Type 0} → Result A Refusal → Answer A
answer (Ok a) = accepted a
answer (Err r) = refused (number r)

-- the number alone, 0 where the call is accepted
abbrev pub code : {A : Type 0} → Result A Refusal → ℕ
code (Ok a) = 0
code (Err r) = number r
