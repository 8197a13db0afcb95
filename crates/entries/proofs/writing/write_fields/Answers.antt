-- `entries::writing::write_fields` meets its contract.
use Rattle.std.proofs.Common.{List, ℕ, ◌≡◌, ◌<◌, ◌≤◌, length, Bool, true, ◌||◌, ltb, arith, ap, ◌∙◌}
use Rattle.std.proofs.lemmas.Bool.{lt-ltb, le-ltb}
use Rattle.laws.proofs.AnswerLaws.{one-refuses, one-accepts, gives-refusal, writes-on, leaves-on}
use Rattle.laws.specs.Cases.{lowest, lower}
use Rattle.registers.specs.Loading.{too_short}
use Rattle.registers.proofs.Refusals.{number-some, not-refused, outcome-passes}
use Rattle.entries.specs.Writing.{too_few, load_fields, write_fields}
use Rattle.entries.specs.Order.{fields_in}
use Rattle.entries.proofs.Fronts.{front-fields}
use Rattle.entries.proofs.writing.write_fields.Goals as goal

few-fields : (fields out : List ℕ) → length fields < 34 → too_few fields out ≡ true
unfolding too_few too_short
few-fields fields out h = rw (lt-ltb _ _ h)

-- where the fields are enough, the words alone are judged
few-words : (fields out : List ℕ) → 34 ≤ length fields → too_few fields out ≡ ltb (length out) 9
unfolding too_few too_short
few-words fields out h = ap (λ (b : Bool). b || ltb (length out) 9) (le-ltb _ _ h)

pub returns-in_default : goal.returns-in_default
unfolding write_fields load_fields
returns-in_default c = leaves-on _ _ _ 10 (one-refuses 10 _ _ (omega arith) (few-fields _ _ c.in_default.ensures.cases))

pub returns-in_err-refuse_if : goal.returns-in_err-refuse_if
unfolding write_fields load_fields lowest lower
returns-in_err-refuse_if c =
    let e = c.in_err-refuse_if.field-0.0 in
    let few = few-words c.args.fields.now c.args.words.now c.in-Some.ensures.cases.enough in
    outcome-passes c.from_residual.result e _ _ _ c.from_residual.ensures.1
    (gives-refusal _ _ _ (rw few c.in_err-refuse_if.ensures) (number-some e))

pub returns : goal.returns
unfolding write_fields load_fields
returns c =
    let enough = c.in-Some.ensures.cases.enough in
    let few = few-words c.args.fields.now c.args.words.now enough in
    writes-on _ _ _ c.into.result _
    (one-accepts 10 _ _ _ (few ∙ not-refused 10 _ c.in_ok-refuse_if.ensures (λ e. omega arith))
    (c.into.ensures ∙ ap fields_in c.in-Some.ensures.cases.same ∙ front-fields c.args.fields.now))
    c.write_fields_of.ensures
