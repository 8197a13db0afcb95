-- Reading the fields into a lent slice (§1.4, §10.2), and the order of its refusals (§9.3). Promises cite it, so a reader must believe
-- it.
use Rattle.std.specs.Prelude.{List, ℕ}
use Rattle.laws.specs.Answers.{Outcome, outcome_on}
use Rattle.registers.specs.Loading.{load, put_entries}
use Rattle.registers.specs.declared.Words.{Words}
use Rattle.fields.specs.Reading.{read}
use Rattle.entries.specs.Order.{field_entries}

-- 1, then 10 (§9.3): fewer than 34 entries for the fields
unfoldable pub read_fields_of : Words → List ℕ → Outcome
read_fields_of w out = outcome_on (read w) out (λ f. put_entries (field_entries f) out)

-- of the words in a slice: 10 first where it has fewer than nine entries (§9.2)
unfoldable pub read_fields : List ℕ → List ℕ → Outcome
read_fields words out = outcome_on (load words) out (λ w. read_fields_of w out)
