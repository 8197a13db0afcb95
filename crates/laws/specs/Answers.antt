-- What a call gives: its value, or the number of a refusal (§9.1, §9.2) and nothing else (§9.5). The enum of each call is read as one
-- of these. Promises cite these definitions, so a reader must believe them; their laws are in AnswerLaws.
use Rattle.std.specs.Prelude.{List, ℕ, zero, suc}

pub data Answer (A : Type 0) : Type 0 where
  accepted : A → Answer A
  refused : ℕ → Answer A

-- the answer by the refusal number n (§9.2): the value where n is 0 (no condition holds), else n alone
unfoldable pub judged : {A : Type 0} → ℕ → A → Answer A
judged zero a = accepted a
judged (suc n) a = refused (suc n)

-- f of the value of an accepted answer; b where the call was refused, e.g. the old state (§9.5)
unfoldable pub or_else : {A B : Type 0} → (A → B) → B → Answer A → B
or_else f b (accepted a) = f a
or_else f b (refused n) = b

-- the number of a refusal, 0 where the call is accepted
unfoldable pub number_of : {A : Type 0} → Answer A → ℕ
number_of (accepted a) = 0
number_of (refused n) = n

-- a call that goes on with another's value; a refusal is passed on
unfoldable pub and_then : {A B : Type 0} → Answer A → (A → Answer B) → Answer B
and_then (accepted a) f = f a
and_then (refused n) f = refused n

-- a call that gives f of another's value; a refusal is passed on
unfoldable pub mapped : {A B : Type 0} → (A → B) → Answer A → Answer B
mapped f (accepted a) = accepted (f a)
mapped f (refused n) = refused n

-- ---- a call that answers with a number only, 0 where it is done

-- it goes on to judge another's value; a refusal is passed on
unfoldable pub judged_on : {A : Type 0} → Answer A → (A → ℕ) → ℕ
judged_on (accepted a) f = f a
judged_on (refused n) f = n

-- ---- a call that writes to a lent slice

-- what it leaves: its refusal number, 0 where it is done, and the slice
pub record Outcome : Type 0 where
  pub refusal : ℕ
  pub left : List ℕ

abbrev pub leaves : ℕ → List ℕ → Outcome
leaves n s = record { refusal = n; left = s }

-- by the refusal number n (§9.5): the slice as written where n is 0, else as it was
unfoldable pub outcome : ℕ → List ℕ → List ℕ → Outcome
outcome zero was written = leaves 0 written
outcome (suc n) was written = leaves (suc n) was

-- it goes on with another's value; a refusal is passed on, and the slice stays (§9.5)
unfoldable pub outcome_on : {A : Type 0} → Answer A → List ℕ → (A → Outcome) → Outcome
outcome_on (accepted a) was f = f a
outcome_on (refused n) was f = leaves n was
