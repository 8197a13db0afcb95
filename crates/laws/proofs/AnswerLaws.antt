-- Laws of answers, refusals and what a call leaves: one set for every call. A reader need not believe them.
use Rattle.std.specs.Prelude.{Bool, true, false, List, [], ◌∷◌, ◌≡◌, T, ltb}
use Rattle.std.proofs.Math.Path.{refl}
use Rattle.std.proofs.Common.{sym, ap, ◌∙◌, arith}
use Prim.Native.Nat.{ℕ, zero, suc, ◌<◌}
use Rattle.laws.specs.BooleanLaws.{and_both}
use Rattle.laws.specs.Cases.{◌when◌, lowest, lower}
use Rattle.laws.specs.CaseLaws.{ascending}
use Rattle.laws.proofs.CaseLaws.{lowest-zero-none-holds}
use Rattle.laws.specs.Answers.{Answer, accepted, refused, judged, or_else, number_of, and_then, mapped, judged_on, Outcome, leaves, outcome, outcome_on}

-- an accepted call was judged 0, and gives the value
pub judged-accepted : {A : Type 0} (n : ℕ) (a b : A) → judged n a ≡ accepted b → (n ≡ 0) × (a ≡ b)
unfolding judged
judged-accepted zero a b e = (refl, cc)
judged-accepted (suc n) a b e = let z : ◌≡◌ {A = ℕ} 0 1 = cc in absurd (omega arith)

-- a refused call was judged that number, which is not 0
pub judged-refused : {A : Type 0} (n : ℕ) (a : A) (m : ℕ) → judged n a ≡ refused m → (n ≡ m) × (0 < n)
unfolding judged
judged-refused zero a m e = let z : ◌≡◌ {A = ℕ} 0 1 = cc in absurd (omega arith)
judged-refused (suc n) a m e = (cc, omega arith)

-- an answer whose number is not 0 is that refusal
pub is-refused : {A : Type 0} (a : Answer A) → (number_of a ≡ 0 → ⊥) → a ≡ refused (number_of a)
unfolding number_of
is-refused (accepted x) ne = absurd (ne refl)
is-refused (refused m) ne = refl

-- and `or_else` keeps b
pub else-kept : {A B : Type 0} (f : A → B) (b : B) (a : Answer A) → (number_of a ≡ 0 → ⊥) → or_else f b a ≡ b
unfolding or_else number_of
else-kept f b (accepted x) ne = absurd (ne refl)
else-kept f b (refused m) ne = refl

-- an answer's number is the one that it was judged by
pub judged-number : {A : Type 0} (n : ℕ) (a : A) → number_of (judged n a) ≡ n
unfolding number_of judged
judged-number zero a = refl
judged-number (suc n) a = refl

-- a call that is accepted was judged 0 at first, and so was what it went on with
pub then-went-on : {A B : Type 0} (n : ℕ) (a : A) (f : A → Answer B) → number_of (and_then (judged n a) f) ≡ 0
    → (n ≡ 0) × (number_of (f a) ≡ 0)
unfolding number_of and_then judged
then-went-on zero a f e = (refl, e)
then-went-on (suc n) a f e = absurd (omega (arith, e))

-- ---- a call with one condition

module _ {A : Type 0} (n : ℕ) (b : Bool) (a : A) where
  pub one-refuses : 0 < n → b ≡ true → refused n ≡ judged (lowest (n when b ∷ [])) a
  unfolding judged lowest lower
  one-refuses h t = rw t (go n h)
    where
      go : (m : ℕ) → 0 < m → refused m ≡ judged (lower m 0) a
      go zero z = absurd (omega arith)
      go (suc m) z = refl

  pub one-accepts : (v : A) → b ≡ false → v ≡ a → accepted v ≡ judged (lowest (n when b ∷ [])) a
  unfolding judged lowest
  one-accepts v f e = rw f (ap accepted e)

  pub one-accepted : (v : A) → T (ltb 0 n) → judged (lowest (n when b ∷ [])) a ≡ accepted v → (b ≡ false) × (a ≡ v)
  one-accepted v h e = ((lowest-zero-none-holds 0 (n when b ∷ []) rises taken.0).0, taken.1)
    where
      taken : (lowest (n when b ∷ []) ≡ 0) × (a ≡ v)
      taken = judged-accepted (lowest (n when b ∷ [])) a v e

      rises : T (ascending 0 (n when b ∷ []))
      rises = and_both (ltb 0 n) true h tt

  pub one-refused : (m : ℕ) → judged (lowest (n when b ∷ [])) a ≡ refused m → b ≡ true
  unfolding lowest
  one-refused m e = go b refl
    where
      some : 0 < lowest (n when b ∷ [])
      some = (judged-refused (lowest (n when b ∷ [])) a m e).1

      go : (t : Bool) → b ≡ t → b ≡ true
      go true p = p
      go false p = absurd (omega (arith, rw p at some))

-- ---- how a program gives such an answer, where it found the number r

pub gives-refusal : {A : Type 0} (r n : ℕ) (a : A) → r ≡ n → (r ≡ 0 → ⊥) → refused r ≡ judged n a
unfolding judged
gives-refusal zero n a e ne = absurd (ne refl)
gives-refusal (suc r) n a e ne = ap (λ (k : ℕ). judged k a) e

pub gives-answer : {A : Type 0} (r n : ℕ) (a b : A) → r ≡ n → r ≡ 0 → b ≡ a → accepted b ≡ judged n a
unfolding judged
gives-answer r n a b e z v = ap accepted v ∙ ap (λ (k : ℕ). judged k a) (sym z ∙ e)

pub passes_on : {A B : Type 0} (x : Answer A) (f : A → Answer B) (n : ℕ) → refused n ≡ x → refused n ≡ and_then x f
unfolding and_then
passes_on x f n e = ap (λ (y : Answer _). and_then y f) e

pub goes_on : {A B : Type 0} (x : Answer A) (f : A → Answer B) (a : A) (b : Answer B) → accepted a ≡ x → b ≡ f a
    → b ≡ and_then x f
unfolding and_then
goes_on x f a b e v = v ∙ ap (λ (y : Answer _). and_then y f) e

-- `mapped` of an accepted answer, and of a refused one
pub maps : {A B : Type 0} (f : A → B) (x : Answer A) (a : A) (b : B) → accepted a ≡ x → b ≡ f a → accepted b ≡ mapped f x
unfolding mapped
maps f x a b e v = ap accepted v ∙ ap (mapped f) e

pub maps-refusal : {A B : Type 0} (f : A → B) (x : Answer A) (n : ℕ) → refused n ≡ x → refused n ≡ mapped f x
unfolding mapped
maps-refusal f x n e = ap (mapped f) e

-- ---- a call that answers with a number only, 0 where it is done

pub judges-on : {A : Type 0} (x : Answer A) (f : A → ℕ) (a : A) (r : ℕ) → accepted a ≡ x → r ≡ f a → r ≡ judged_on x f
unfolding judged_on
judges-on x f a r e v = v ∙ ap (λ (y : Answer _). judged_on y f) e

pub passes-number : {A : Type 0} (x : Answer A) (f : A → ℕ) (n : ℕ) → refused n ≡ x → n ≡ judged_on x f
unfolding judged_on
passes-number x f n e = ap (λ (y : Answer _). judged_on y f) e

-- a call that is done was judged 0 at first, and so was what it went on with
pub number-went-on : {A : Type 0} (n : ℕ) (a : A) (f : A → ℕ) → judged_on (judged n a) f ≡ 0 → (n ≡ 0) × (f a ≡ 0)
unfolding judged_on judged
number-went-on zero a f e = (refl, e)
number-went-on (suc n) a f e = absurd (omega (arith, e))

-- ---- a call that writes to a lent slice

pub leaves-as-it-was : (r n : ℕ) (was written : List ℕ) → r ≡ n → (r ≡ 0 → ⊥) → leaves r was ≡ outcome n was written
unfolding outcome
leaves-as-it-was zero n was written e ne = absurd (ne refl)
leaves-as-it-was (suc r) n was written e ne = ap (λ (k : ℕ). outcome k was written) e

pub leaves-written : (n : ℕ) (was written left : List ℕ) → n ≡ 0 → left ≡ written → leaves 0 left ≡ outcome n was written
unfolding outcome
leaves-written n was written left z e = ap (leaves 0) e ∙ ap (λ (k : ℕ). outcome k was written) (sym z)

-- its number is the one that it was judged by
pub outcome-number : (n : ℕ) (was written : List ℕ) → (outcome n was written).refusal ≡ n
unfolding outcome
outcome-number zero was written = refl
outcome-number (suc n) was written = refl

pub writes-on : {A : Type 0} (x : Answer A) (was : List ℕ) (f : A → Outcome) (a : A) (o : Outcome) → accepted a ≡ x → o ≡ f a
    → o ≡ outcome_on x was f
unfolding outcome_on
writes-on x was f a o e v = v ∙ ap (λ (y : Answer _). outcome_on y was f) e

pub leaves-on : {A : Type 0} (x : Answer A) (was : List ℕ) (f : A → Outcome) (n : ℕ) → refused n ≡ x
    → leaves n was ≡ outcome_on x was f
unfolding outcome_on
leaves-on x was f n e = ap (λ (y : Answer _). outcome_on y was f) e

-- a call that is done was judged 0 at first, and what it went on with is done
pub outcome-went-on : {A : Type 0} (n : ℕ) (a : A) (was : List ℕ) (f : A → Outcome) → (outcome_on (judged n a) was f).refusal ≡ 0
    → (n ≡ 0) × ((f a).refusal ≡ 0)
unfolding outcome_on judged
outcome-went-on zero a was f e = (refl, e)
outcome-went-on (suc n) a was f e = absurd (omega (arith, e))

-- a call that is done was judged 0, and went on
pub went_on : {A : Type 0} (n : ℕ) (a : A) (was : List ℕ) (f : A → Outcome) (left : List ℕ)
    → outcome_on (judged n a) was f ≡ leaves 0 left → (n ≡ 0) × (f a ≡ leaves 0 left)
unfolding outcome_on judged
went_on zero a was f left e = (refl, e)
went_on (suc n) a was f left e = absurd (omega (arith, ap (λ (o : Outcome). o.refusal) e))
