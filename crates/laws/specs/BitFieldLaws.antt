-- What the laws of packed words speak of (§1.6); the laws are in proofs/BitFieldLaws.
use Rattle.std.specs.Prelude.{List, [], ◌∷◌, ℕ, ◌^◌, ◌<◌, length}
use Rattle.laws.specs.BitFields.{Span, span_width, values}
use Rattle.laws.specs.BitFields.{next_value, other_values}

-- how many spans are free
abbrev pub free_spans : List Span → ℕ
free_spans ps = length (values ps 0)

-- each value fits its span
abbrev pub Fit : List Span → List ℕ → Type 0
Fit [] vs = Unit
Fit (p ∷ ps) vs = (next_value p.access vs < 2 ^ span_width p) × Fit ps (other_values p.access vs)
