-- A word's layout: a list of spans from bit 31 down, each free, read-only or reserved (§1.2, §1.3). Reading, reserved bits, widths and
-- packing follow from the list alone (§1.4, §1.5). Promises cite these definitions, so a reader must believe them; their laws are in
-- BitFieldLaws.
use Rattle.std.specs.Prelude.{Bool, false, ◌&&◌, ◌||◌, List, [], ◌∷◌, ℕ, suc, ◌+◌, ◌-◌, ◌*◌, ◌/◌, ◌%◌, ◌^◌, ltb, leb, eqb}

-- who writes a span: the program, only the chip, nobody (§1.3)
pub data Access : Type 0 where
  Free ReadOnly Reserved : Access

-- a span of a word, by its highest and its lowest bit as in the table of §1.2
pub record Span : Type 0 where
  pub access : Access
  pub high : ℕ
  pub low : ℕ

abbrev pub free : ℕ → ℕ → Span
free high low = record { access = Free; high = high; low = low }

abbrev pub read_only : ℕ → ℕ → Span
read_only high low = record { access = ReadOnly; high = high; low = low }

abbrev pub reserved : ℕ → ℕ → Span
reserved high low = record { access = Reserved; high = high; low = low }

abbrev pub span_width : Span → ℕ
span_width p = suc p.high - p.low

-- the span's bits of a word as a number (§1.2): what a shift and a mask give
abbrev pub field : Span → ℕ → ℕ
field p w = w / 2 ^ p.low % 2 ^ span_width p

-- the spans cover each of the bits below n once, from the highest down
abbrev pub tiles : ℕ → List Span → Bool
tiles n [] = eqb n 0
tiles n (p ∷ ps) = eqb n (suc p.high) && leb p.low p.high && tiles p.low ps

abbrev pub if_reserved : Access → Bool → Bool
if_reserved Free b = false
if_reserved ReadOnly b = false
if_reserved Reserved b = b

-- some reserved bit of the word is set (§1.3)
abbrev pub reserved_set : List Span → ℕ → Bool
reserved_set [] w = false
reserved_set (p ∷ ps) w = reserved_set ps w || if_reserved p.access (ltb 0 (field p w))

abbrev pub listed : Access → ℕ → List ℕ → List ℕ
listed Free v vs = v ∷ vs
listed ReadOnly v vs = vs
listed Reserved v vs = vs

-- the values of a word's free spans, from the highest down; read-only ones are left out (§1.3, §1.4)
abbrev pub values : List Span → ℕ → List ℕ
values [] w = []
values (p ∷ ps) w = listed p.access (field p w) (values ps w)

-- the value of the next span, given those of the free spans; read-only and reserved bits become 0 (§1.3)
abbrev pub next_value : Access → List ℕ → ℕ
next_value Free [] = 0
next_value Free (v ∷ vs) = v
next_value ReadOnly vs = 0
next_value Reserved vs = 0

-- the values left for the spans below it
abbrev pub other_values : Access → List ℕ → List ℕ
other_values Free [] = []
other_values Free (v ∷ vs) = vs
other_values ReadOnly vs = vs
other_values Reserved vs = vs

-- the word whose free spans have these values (§1.5)
abbrev pub pack : List Span → List ℕ → ℕ
pack [] vs = 0
pack (p ∷ ps) vs = next_value p.access vs * 2 ^ p.low + pack ps (other_values p.access vs)

-- some value is too wide for its span (§1.5)
abbrev pub too_wide : List Span → List ℕ → Bool
too_wide [] vs = false
too_wide (p ∷ ps) vs = leb (2 ^ span_width p) (next_value p.access vs) || too_wide ps (other_values p.access vs)

abbrev pub if_read_only : Access → ℕ → ℕ
if_read_only Free v = 0
if_read_only ReadOnly v = v
if_read_only Reserved v = 0

-- the word with every bit 0 but its read-only ones (§1.6)
abbrev pub read_only_bits : List Span → ℕ → ℕ
read_only_bits [] w = 0
read_only_bits (p ∷ ps) w = if_read_only p.access (field p w) * 2 ^ p.low + read_only_bits ps w
