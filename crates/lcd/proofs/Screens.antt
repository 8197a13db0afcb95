-- A call that goes on with the screen of the words in a slice. A reader need not believe it.
use Rattle.std.specs.Prelude.{◌≡◌, List, ℕ, Result}
use Rattle.std.specs.Result.{IsErrAnd}
use Rattle.std.proofs.Common.{refl, ◌∙◌}
use Rattle.laws.specs.Answers.{Answer, accepted, refused, mapped, Outcome, leaves, outcome_on}
use Rattle.laws.proofs.AnswerLaws.{writes-on}
use Rattle.registers.specs.Refusals.{number, code}
use Rattle.registers.specs.declared.refusal.Refusal.{Refusal}
use Rattle.registers.proofs.Refusals.{outcome-passes}

module _ {A B : Type 0} (x : Answer A) (f : A → B) (was : List ℕ) (g : B → Outcome) where
  mapped-on : outcome_on (mapped f x) was g ≡ outcome_on x was (λ a. g (f a))
  unfolding outcome_on mapped
  mapped-on = go x
    where
      go : (y : Answer A) → outcome_on (mapped f y) was g ≡ outcome_on y was (λ a. g (f a))
      go (accepted a) = refl
      go (refused n) = refl

  pub goes-on : (b : B) (o : Outcome) → accepted b ≡ mapped f x → o ≡ g b → o ≡ outcome_on x was (λ a. g (f a))
  goes-on b o e v = writes-on (mapped f x) was g b o e v ∙ mapped-on

  pub passes-on : {C : Type 0} (r : Result C Refusal) (e : Refusal) → IsErrAnd r (λ y. y ≡ e) → refused (number e) ≡ mapped f x
      → leaves (code r) was ≡ outcome_on x was (λ a. g (f a))
  passes-on r e h p = outcome-passes r e (mapped f x) was g h p ∙ mapped-on
