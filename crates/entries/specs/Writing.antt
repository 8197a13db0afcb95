-- Writing words from a lent slice of fields into another one (§1.5, §10.2), and the order of its refusals (§9.3). Promises cite it, so
-- a reader must believe it.
use Rattle.std.specs.Prelude.{Bool, ◌||◌, List, [], ◌∷◌, ℕ, length}
use Rattle.laws.specs.Answers.{Answer, judged, Outcome, outcome_on}
use Rattle.laws.specs.Cases.{◌when◌, lowest}
use Rattle.registers.specs.Loading.{word_entries, too_short, put_entries}
use Rattle.fields.specs.Writing.{write}
use Rattle.fields.specs.declared.Fields.{Fields}
use Rattle.entries.specs.Order.{fields_in}

-- 10 (§9.3): fewer than 34 entries for the fields, or fewer than nine for the words
unfoldable pub too_few : List ℕ → List ℕ → Bool
too_few fields out = too_short (length fields) 34 || too_short (length out) 9

-- the fields in a slice, or 10
unfoldable pub load_fields : List ℕ → List ℕ → Answer Fields
load_fields fields out = judged (lowest (10 when too_few fields out ∷ [])) (fields_in fields)

-- 12 (§1.5), else the nine words as the first entries; the others stay
unfoldable pub write_fields_of : Fields → List ℕ → Outcome
write_fields_of f out = outcome_on (write f) out (λ w. put_entries (word_entries w) out)

-- 10 comes before 12 (§9.3)
unfoldable pub write_fields : List ℕ → List ℕ → Outcome
write_fields fields out = outcome_on (load_fields fields out) out (λ f. write_fields_of f out)
