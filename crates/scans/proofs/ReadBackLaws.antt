-- The scan's slice keeps the state (§10.4): what an accepted call stores in a slice of 13 entries, the next call reads back. It is
-- proved here, so a reader need not believe more than the definitions it names.
use Rattle.std.specs.Prelude.{List, ◌≡◌, refl, ℕ, ◌<◌, ◌≤◌, length}
use Rattle.std.proofs.Math.Path.{sym}
use Rattle.std.proofs.Common.{arith, le-ltb}
use Rattle.std.proofs.Math.Nat.{zero-add}
use Rattle.std.proofs.Math.ListN.{get_or}
use Rattle.laws.specs.Answers.{accepted}
use Rattle.laws.proofs.AnswerLaws.{one-accepts}
use Rattle.laws.specs.StoringLaws.{length-stores, entry-stored}
use Rattle.registers.specs.Loading.{too_short}
use Rattle.scanout.specs.declared.state.State.{State}
use Rattle.scans.specs.Scan.{put_state, load_scan}
use Rattle.scanout.specs.State.{state_of, entries_of}

-- a slice that has a state's entries gives the state
reads : (s : State) (scan : List ℕ) → ((i : ℕ) → i < 13 → get_or scan i 0 ≡ get_or (entries_of s) i 0) → state_of scan ≡ s
reads s scan e =
    rw (e 0 (omega arith), e 1 (omega arith), e 2 (omega arith), e 3 (omega arith), e 4 (omega arith))
    (rw (e 5 (omega arith), e 6 (omega arith), e 7 (omega arith), e 8 (omega arith))
    (rw (e 9 (omega arith), e 10 (omega arith), e 11 (omega arith), e 12 (omega arith)) refl))

module _ (s : State) (scan : List ℕ) (room : 13 ≤ length scan) where
  stored : (i : ℕ) → i < 13 → get_or (put_state s scan) i 0 ≡ get_or (entries_of s) i 0
  unfolding put_state
  stored i h = rw zero-add at (entry-stored (λ j. get_or (entries_of s) j 0) 0 13 scan i (omega arith) h)

  size : length (put_state s scan) ≡ length scan
  unfolding put_state
  size = length-stores (λ j. get_or (entries_of s) j 0) 0 13 scan

  pub stored-state-is-read : load_scan (put_state s scan) ≡ accepted s
  unfolding load_scan too_short
  stored-state-is-read =
      sym (one-accepts 10 _ _ s (le-ltb (length (put_state s scan)) 13 (omega (arith, size))) (sym (reads s (put_state s scan) stored)))
