-- Laws of numbers in lent slices (§10.1): putting them where there is room, and loading words that were put.
use mathlib.Core.List.{List}
use mathlib.Core.Path.{◌≡◌, refl, sym, ap, ◌∙◌}
use Prim.Native.Nat.{ℕ, ◌<◌, ◌≤◌}
use native.Mathlib.Nat.{zero-add}
use native.Mathlib.Omega.{arith}
use borrow.Author.Tests.{le-ltb}
use lib.Dec.{lit<}
use lib.ListN.{length, get_or, take}
use Rattle.std.proofs.Common.{get_or-take}
use Rattle.laws.specs.Answers.{accepted, leaves}
use Rattle.laws.proofs.AnswerLaws.{leaves-written, one-accepts}
use Rattle.laws.proofs.CaseLaws.{none-of-one}
use Rattle.laws.specs.StoringLaws.{entry-stored, length-stores}
use Rattle.registers.specs.Loading.{nine_words, word_entries, too_short, short_of_nine, load, begun_with, put_entries}
use Rattle.registers.specs.declared.Words.{Words}

pub room-for-all : (numbers out : List ℕ) → length numbers ≤ length out → put_entries numbers out ≡ leaves 0 (begun_with numbers out)
unfolding put_entries too_short
room-for-all numbers out room = sym (leaves-written _ _ _ _ (none-of-one 10 _ (le-ltb _ _ room)) refl)

-- the front of a slice has the same nine words
pub front-nine : (s : List ℕ) → nine_words (take 9 s) ≡ nine_words s
front-nine s = rw (at 0 (lit< tt), at 1 (lit< tt), at 2 (lit< tt), at 3 (lit< tt), at 4 (lit< tt)) (rw (at 5 (lit< tt), at 6 (lit< tt), at 7 (lit< tt), at 8 (lit< tt)) refl)
  where
    at : (i : ℕ) → i < 9 → get_or (take 9 s) i 0 ≡ get_or s i 0
    at i h = get_or-take 9 s i 0 h

pub nine-loaded : (slice : List ℕ) → 9 ≤ length slice → load slice ≡ accepted (nine_words slice)
unfolding load too_short short_of_nine
nine-loaded slice room = sym (one-accepts 10 _ _ _ (le-ltb _ _ room) refl)

module _ (w : Words) (out : List ℕ) (room : 9 ≤ length out) where
  at : (i : ℕ) → i < 9 → get_or (begun_with (word_entries w) out) i 0 ≡ get_or (word_entries w) i 0
  at i h = rw zero-add at (entry-stored (λ j. get_or (word_entries w) j 0) 0 9 out i (omega arith) h)

  words-again : nine_words (begun_with (word_entries w) out) ≡ w
  words-again =
      rw (at 0 (omega arith), at 1 (omega arith), at 2 (omega arith), at 3 (omega arith))
      (rw (at 4 (omega arith), at 5 (omega arith), at 6 (omega arith), at 7 (omega arith), at 8 (omega arith)) refl)

  long-enough : 9 ≤ length (begun_with (word_entries w) out)
  long-enough = omega (arith, length-stores (λ j. get_or (word_entries w) j 0) 0 9 out)

  pub words-put-are-loaded : load (begun_with (word_entries w) out) ≡ accepted w
  words-put-are-loaded = nine-loaded (begun_with (word_entries w) out) long-enough ∙ ap accepted words-again
