-- Laws of refusals, and of a call that ends by `?`: it answers with the refusal that another call gave. A reader need not believe them.
use Rattle.std.specs.Prelude.{◌≡◌, ℕ, Bool, true, false, cond, List, ◌∷◌, ◌++◌, T, Result, Ok, Err}
use Rattle.std.specs.Result.{IsErrAnd, result_and}
use Rattle.std.proofs.Common.{refl, sym, ap, ◌∙◌, arith}
use Rattle.laws.specs.Answers.{Answer, refused, judged, and_then, judged_on, mapped, Outcome, leaves, outcome, outcome_on}
use Rattle.laws.specs.Cases.{Case, ◌when◌, lowest}
use Rattle.laws.specs.CaseLaws.{Passed, ascending, up_to}
use Rattle.laws.proofs.CaseLaws.{chain-refuses, several-refuse}
use Rattle.laws.proofs.AnswerLaws.{gives-refusal, gives-answer, passes_on, passes-number, maps-refusal, leaves-as-it-was, leaves-on}
use Rattle.registers.specs.declared.refusal.Refusal.{Refusal}
use Rattle.registers.specs.declared.refusal.Refusal.TheVariants.{ReservedBit, OtherPanel, NoSuchMode, IllegalSwap, WrongRowSize, WrongEnd, PastBank, OutsideMemory, VideoOff, WrongLength, OutsidePanel, FieldTooWide, OtherBank, InputLength, PastFrame, ClockTooFast, NoSuchEdition}
use Rattle.registers.specs.Refusals.{number, answer, code}

-- a refusal has a number, and it is not 0
pub number-some : (r : Refusal) → number r ≡ 0 → ⊥
number-some ReservedBit e = omega arith
number-some OtherPanel e = omega arith
number-some NoSuchMode e = omega arith
number-some IllegalSwap e = omega arith
number-some WrongRowSize e = omega arith
number-some WrongEnd e = omega arith
number-some PastBank e = omega arith
number-some OutsideMemory e = omega arith
number-some VideoOff e = omega arith
number-some WrongLength e = omega arith
number-some OutsidePanel e = omega arith
number-some FieldTooWide e = omega arith
number-some OtherBank e = omega arith
number-some InputLength e = omega arith
number-some PastFrame e = omega arith
number-some ClockTooFast e = omega arith
number-some NoSuchEdition e = omega arith

-- `refuse_if` refused, so its condition holds and the refusal is its own
pub refused-by : (r n : ℕ) (b : Bool) → r ≡ cond b n 0 → (r ≡ 0 → ⊥) → (b ≡ true) × (r ≡ n)
refused-by r n true e ne = (refl, e)
refused-by r n false e ne = absurd (ne e)

-- it did not, so its condition does not hold
pub not-refused : (n : ℕ) (b : Bool) → 0 ≡ cond b n 0 → (n ≡ 0 → ⊥) → b ≡ false
not-refused n true e ne = absurd (ne (sym e))
not-refused n false e ne = refl

-- ---- the exit of a `?`: r is what the call answers, e the refusal that the other call gave

pub exit-code : {A : Type 0} (r : Result A Refusal) (e : Refusal) → IsErrAnd r (λ y. y ≡ e) → code r ≡ number e
exit-code (Ok a) e g = absurd g
exit-code (Err d) e g = ap number g

pub exit-answer : {A : Type 0} (r : Result A Refusal) (e : Refusal) → IsErrAnd r (λ y. y ≡ e) → answer r ≡ refused (number e)
exit-answer (Ok a) e g = absurd g
exit-answer (Err d) e g = ap (λ (x : Refusal). refused (number x)) g

-- what it answers by the number n that it is judged by
pub refused-as : {A : Type 0} (r : Result A Refusal) (e : Refusal) (n : ℕ) (a : A) → IsErrAnd r (λ y. y ≡ e) → number e ≡ n
    → answer r ≡ judged n a
refused-as r e n a g j = exit-answer r e g ∙ gives-refusal (number e) n a j (number-some e)

-- a judgement with the value that it lets pass
pub judged-with : {A : Type 0} (r : Result Unit Refusal) (n : ℕ) (a : A) → code r ≡ n → answer (result_and r (Ok a)) ≡ judged n a
judged-with (Ok u) n a e = gives-answer 0 n a a e refl refl
judged-with (Err d) n a e = gives-refusal (number d) n a e (number-some d)

-- and leaves in a slice
pub left-as-it-was : {A : Type 0} (r : Result A Refusal) (e : Refusal) (n : ℕ) (was written : List ℕ) → IsErrAnd r (λ y. y ≡ e)
    → number e ≡ n → leaves (code r) was ≡ outcome n was written
left-as-it-was r e n was written g j =
    ap (λ (k : ℕ). leaves k was) (exit-code r e g) ∙ leaves-as-it-was (number e) n was written j (number-some e)

-- what it passes on
pub answer-passes : {A B : Type 0} (r : Result B Refusal) (e : Refusal) (x : Answer A) (f : A → Answer B) → IsErrAnd r (λ y. y ≡ e)
    → refused (number e) ≡ x → answer r ≡ and_then x f
answer-passes r e x f g p = exit-answer r e g ∙ passes_on x f (number e) p

pub mapped-passes : {A B : Type 0} (r : Result B Refusal) (e : Refusal) (x : Answer A) (f : A → B) → IsErrAnd r (λ y. y ≡ e)
    → refused (number e) ≡ x → answer r ≡ mapped f x
mapped-passes r e x f g p = exit-answer r e g ∙ maps-refusal f x (number e) p

pub number-passes : {A B : Type 0} (r : Result B Refusal) (e : Refusal) (x : Answer A) (f : A → ℕ) → IsErrAnd r (λ y. y ≡ e)
    → refused (number e) ≡ x → code r ≡ judged_on x f
number-passes r e x f g p = exit-code r e g ∙ passes-number x f (number e) p

pub outcome-passes : {A B : Type 0} (r : Result B Refusal) (e : Refusal) (x : Answer A) (was : List ℕ) (f : A → Outcome)
    → IsErrAnd r (λ y. y ≡ e) → refused (number e) ≡ x → leaves (code r) was ≡ outcome_on x was f
outcome-passes r e x was f g p = ap (λ (k : ℕ). leaves k was) (exit-code r e g) ∙ leaves-on x was f (number e) p

-- a judgement that ends at the condition numbered k, past a front of several and the conditions ds
pub exits : {A : Type 0} (r : Result A Refusal) (e : Refusal) → IsErrAnd r (λ y. y ≡ e) → (cs ds es : List Case) (n k : ℕ) (b : Bool)
    → T (up_to n cs) → T (ascending n (ds ++ (k when b ∷ es))) → 0 ≡ lowest cs → Passed ds → number e ≡ cond b k 0
    → code r ≡ lowest (cs ++ (ds ++ (k when b ∷ es)))
exits r e g cs ds es n k b u t z p h = exit-code r e g ∙ chain-refuses cs ds n k b (number e) es u t z p h (number-some e)

-- or in the front
pub exits-in-front : {A : Type 0} (r : Result A Refusal) (e : Refusal) → IsErrAnd r (λ y. y ≡ e) → (cs ds : List Case) (n : ℕ)
    → T (up_to n cs) → T (ascending n ds) → number e ≡ lowest cs → code r ≡ lowest (cs ++ ds)
exits-in-front r e g cs ds n u t h = exit-code r e g ∙ several-refuse (number e) n cs ds u t h (number-some e)
