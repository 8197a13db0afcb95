-- The round trip of fields (§1.6), entry by entry: where the writer accepts a slice of fields, reading the words that it left gives the
-- first 34 entries again, unless they set a bit that is reserved on an STN panel (§1.7). The claim is `entries-written-and-read`; it is
-- proved here, so a reader need not believe more than the definitions it names.
use Rattle.std.specs.Prelude.{false, List, [], ◌∷◌, ◌≡◌, ℕ, ◌≤◌, length, get_or}
use Rattle.std.proofs.Math.Path.{refl, sym, ap}
use Rattle.std.proofs.Common.{◌∙◌}
use borrow.Author.Tests.{ltb-false}
use Rattle.laws.specs.Answers.{accepted, judged, Outcome, leaves}
use Rattle.laws.proofs.AnswerLaws.{one-accepts, writes-on, went_on}
use Rattle.laws.specs.BooleanLaws.{or-false-right}
use Rattle.laws.specs.Cases.{◌when◌, lowest}
use Rattle.laws.proofs.CaseLaws.{lowest-zero-none-holds}
use Rattle.laws.specs.Storing.{stores}
use Rattle.registers.proofs.Lending.{room-for-all, words-put-are-loaded}
use Rattle.registers.specs.Loading.{load, word_entries, too_short, put_entries}
use Rattle.fields.proofs.RoundTrip as RoundTrip
use Rattle.fields.specs.Reading.{read}
use Rattle.fields.specs.Writing.{write, words_of, field_too_wide, reserved_on_stn}
use Rattle.entries.specs.Order.{field_entries, fields_in}
use Rattle.entries.specs.Reading.{read_fields_of, read_fields}
use Rattle.entries.specs.Writing.{too_few, load_fields, write_fields_of, write_fields}

-- the fields of a slice, put into another, are its first 34 entries
entries-of-fields-in : (fields out : List ℕ) → 34 ≤ length out
    → put_entries (field_entries (fields_in fields)) out ≡ leaves 0 (stores (λ i. get_or fields i 0) 0 34 out)
unfolding stores
entries-of-fields-in fields out room = room-for-all (field_entries (fields_in fields)) out room

module _ (fields words left : List ℕ) (done : write_fields fields words ≡ leaves 0 left) where
  lent : (lowest (10 when too_few fields words ∷ []) ≡ 0) × (write_fields_of (fields_in fields) words ≡ leaves 0 left)
  unfolding write_fields load_fields
  lent =
      went_on (lowest (10 when too_few fields words ∷ [])) (fields_in fields) words (λ f. write_fields_of f words) left done

  wrote : (lowest (12 when field_too_wide (fields_in fields) ∷ []) ≡ 0)
      × (put_entries (word_entries (words_of (fields_in fields))) words ≡ leaves 0 left)
  unfolding write_fields_of write
  wrote =
      went_on (lowest (12 when field_too_wide (fields_in fields) ∷ [])) (words_of (fields_in fields)) words
      (λ w. put_entries (word_entries w) words) left lent.1

  room : 9 ≤ length words
  unfolding too_few too_short
  room =
      ltb-false _ _
      (or-false-right (too_short (length fields) 34) (too_short (length words) 9)
      (lowest-zero-none-holds 0 (10 when too_few fields words ∷ []) tt lent.0).0)

  taken : write (fields_in fields) ≡ accepted (words_of (fields_in fields))
  unfolding write judged
  taken = ap (λ (n : ℕ). judged n (words_of (fields_in fields))) wrote.0

  loaded : load left ≡ accepted (words_of (fields_in fields))
  loaded =
      ap (λ (o : Outcome). load o.left) (sym wrote.1 ∙ room-for-all (word_entries (words_of (fields_in fields))) words room)
      ∙ words-put-are-loaded (words_of (fields_in fields)) words room

  pub entries-written-and-read : reserved_on_stn (fields_in fields) ≡ false → (out : List ℕ) → 34 ≤ length out
      → read_fields left out ≡ leaves 0 (stores (λ i. get_or fields i 0) 0 34 out)
  unfolding read_fields read_fields_of
  entries-written-and-read clear out h =
      sym
      (writes-on (load left) out (λ w. read_fields_of w out) (words_of (fields_in fields)) _ (sym loaded)
      (writes-on (read (words_of (fields_in fields))) out (λ f. put_entries (field_entries f) out) (fields_in fields) _
      (one-accepts 1 _ _ _ clear refl
      ∙ sym (RoundTrip.fields-written-and-read (fields_in fields) (words_of (fields_in fields)) taken))
      (sym (entries-of-fields-in fields out h))))
