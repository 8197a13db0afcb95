-- Laws that the proofs of the scan's calls share.
use mathlib.Core.Bool.{Bool, true, false, true≢false}
use mathlib.Core.List.{List, ◌++◌}
use mathlib.Core.Path.{◌≡◌, refl, sym, ap, ◌∙◌}
use Prim.Native.Nat.{ℕ, ◌<◌}
use lib.Dec.{lit<}
use lib.ListN.{length, get_or, take, drop}
use Rattle.std.specs.Array.{IsFirstChunk}
use Rattle.std.proofs.Common.{get_or-take}
use Rattle.std.proofs.lemmas.List.{take-append-drop}
use Rattle.std.proofs.lemmas.Bool.{lt-ltb, le-ltb}
use Rattle.laws.specs.StoringLaws.{stored-front}
use Rattle.registers.specs.Loading.{too_short}
use native.Mathlib.Omega.{arith}
use Rattle.laws.specs.Answers.{Answer, accepted, refused, judged, judged_on, and_then}
use Rattle.laws.proofs.AnswerLaws.{one-refuses, one-accepts, gives-refusal, goes_on, passes_on}
use Rattle.laws.specs.BooleanLaws.{or-false-right}
use Rattle.drawing.specs.Drawing.{palette_wrong}
use Rattle.scanout.specs.Refusals.{judge_scan}
use Rattle.scanout.specs.declared.state.State.{State}
use Rattle.scanout.proofs.Acceptance.{passed}
use Rattle.scans.specs.Scan.{short_of_state, load_scan, put_state}
use Rattle.scanout.specs.State.{state_of, entries_of}

-- a call that goes on with the state in the scan's slice
module _ {A : Type 0} (scan : List ℕ) (f : State → Answer A) where
  pub no-state-read : short_of_state scan ≡ true → refused 10 ≡ and_then (load_scan scan) f
  unfolding load_scan
  no-state-read t = passes_on (load_scan scan) f 10 (one-refuses 10 (short_of_state scan) (state_of scan) (omega arith) t)

  pub state-read : short_of_state scan ≡ false → f (state_of scan) ≡ and_then (load_scan scan) f
  unfolding load_scan
  state-read room =
      goes_on (load_scan scan) f (state_of scan) (f (state_of scan))
      (one-accepts 10 (short_of_state scan) (state_of scan) (state_of scan) room refl) refl

-- a step or run for which a slice is too short: its number is not 0
module _ {A : Type 0} (lent entries : ℕ) (short : State → Bool) (is-short : (s : State) → short s ≡ true) (a : State → A) where
  pub short-is-refused : (x : Answer State) (r : ℕ) → r ≡ judged_on x (λ s. judge_scan s lent entries true)
      → refused r ≡ and_then x (λ s. judged (judge_scan s lent entries (short s)) (a s))
  unfolding judged_on and_then
  short-is-refused (accepted s) r e =
      gives-refusal r (judge_scan s lent entries (short s)) (a s) (e ∙ ap (judge_scan s lent entries) (sym (is-short s)))
      (λ z. true≢false (or-false-right (palette_wrong entries) true (passed s lent entries true (sym e ∙ z)).slices))
  short-is-refused (refused n) r e = ap refused e

-- ---- the state in the front of a slice

-- the front has the same state
front-state : (scan : List ℕ) → state_of (take 13 scan) ≡ state_of scan
front-state scan =
    rw (at 0 (lit< tt), at 1 (lit< tt), at 2 (lit< tt), at 3 (lit< tt), at 4 (lit< tt), at 5 (lit< tt), at 6 (lit< tt))
    (rw (at 7 (lit< tt), at 8 (lit< tt), at 9 (lit< tt), at 10 (lit< tt), at 11 (lit< tt), at 12 (lit< tt)) refl)
  where
    at : (i : ℕ) → i < 13 → get_or (take 13 scan) i 0 ≡ get_or scan i 0
    at i h = get_or-take 13 scan i 0 h

module _ (scan entries : List ℕ) (chunk : IsFirstChunk scan entries 13) where
  -- it is the state that a call goes on with
  pub loaded : (s : State) → s ≡ state_of entries → accepted s ≡ load_scan scan
  unfolding load_scan too_short
  loaded s e =
      one-accepts 10 (short_of_state scan) (state_of scan) s (le-ltb (length scan) 13 chunk.enough)
      (e ∙ ap state_of chunk.same ∙ front-state scan)

  -- and read from the slice itself
  pub read : (s : State) → s ≡ state_of entries → s ≡ state_of scan
  read s e = e ∙ ap state_of chunk.same ∙ front-state scan

  pub room : short_of_state scan ≡ false
  unfolding too_short
  room = le-ltb (length scan) 13 chunk.enough

  -- the next state in its place
  pub state-put : (s : State) (next : List ℕ) → next ≡ entries_of s → next ++ drop 13 scan ≡ put_state s scan
  unfolding put_state
  state-put s next e = ap (λ (p : List ℕ). p ++ drop 13 scan) e ∙ stored-front (entries_of s) scan chunk.enough

-- a slice whose front was lent and stays
pub stays : (n : ℕ) (s part : List ℕ) → IsFirstChunk s part n → part ++ drop n s ≡ s
stays n s part chunk = ap (λ (p : List ℕ). p ++ drop n s) chunk.same ∙ take-append-drop n s

-- a slice without room for the state
pub not-loaded : (scan : List ℕ) → length scan < 13 → refused 10 ≡ load_scan scan
unfolding load_scan too_short
not-loaded scan h = one-refuses 10 (short_of_state scan) (state_of scan) (lit< tt) (lt-ltb (length scan) 13 h)
