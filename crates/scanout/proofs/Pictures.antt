-- A picture that all accepted runs of a list share (§8.5): of the clocks that they took for an entry's pixel the latest decides its
-- colour, and an entry without one is untouched.
use mathlib.Core.List.{List}
use mathlib.Core.Logic.{◌⊎◌, inl, inr}
use mathlib.Core.Path.{◌≡◌, refl, sym, ap, ◌∙◌}
use Prim.Native.Nat.{ℕ, ◌<◌, ◌≤◌}
use native.Mathlib.Omega.{arith}
use lib.ListN.{length, get_or}
use Rattle.drawing.specs.Colour.{Lent}
use Rattle.laws.specs.Answers.{Answer, accepted, refused, or_else}
use Rattle.drawing.specs.Drawing.{draw_pixel}
use Rattle.memory.specs.Memory.{screen}
use Rattle.scanout.specs.declared.run.Taken.{Taken}
use Rattle.scanout.specs.Calls.{run}
use Rattle.scanout.specs.FrameByFrame.{PixelAt, entry_of, pixel_colour, RunIn, left_by, RunTakes, OnePicture}
use Rattle.scanout.specs.Lists.{Call, a_step, a_run, a_change, Calls, nothing, ◌then◌, Begins, final, taken, picture_after, picture_left}
use Rattle.scanout.specs.declared.state.State.{State}
use Rattle.registers.specs.declared.Words.{Words}
use Rattle.scanout.proofs.Fronts.{begins-self, begins-longer, not-nothing, taken-front, taken_more, frame-words-in-front}
use Rattle.scanout.proofs.Runs.{run-shows, run-keeps, run_length, run-clocks}
use Rattle.scanout.proofs.Schedule.{schedule}

module _ (s : State) where
  -- a run of the front is one of the longer list
  abbrev longer : (cs : Calls) (c : Call) → RunIn s cs → RunIn s (cs then c)
  longer cs c q =
      record {
        before = q.before;
        lent = q.lent;
        number = q.number;
        picture = q.picture;
        inside = begins-longer (q.before then a_run q.lent q.number q.picture) cs c q.inside;
        answer = q.answer;
        done = q.done;
      }

  longer-takes : (cs : Calls) (c : Call) (q : RunIn s cs) (n : ℕ) → RunTakes s cs q n → RunTakes s (cs then c) (longer cs c q) n
  longer-takes cs c q n u = record { from = u.from; before = u.before }

  one-front : (p : List ℕ) (cs : Calls) (c : Call) → OnePicture s p (cs then c) → OnePicture s p cs
  one-front p cs c one q = one (longer cs c q)

  -- ---- what the last call of a list does to the picture

  data Last (cs : Calls) (c : Call) : Type 0 where
    writes : (q : RunIn s (cs then c)) → q.before ≡ cs
        → ((p : List ℕ) → picture_left s p (cs then c) ≡ left_by s (cs then c) q) → Last cs c
    leaves : ((p : List ℕ) → picture_left s p (cs then c) ≡ picture_left s p cs) → Last cs c

  last-run : (cs : Calls) (l : Lent) (n : ℕ) (picture : List ℕ) (a : Answer Taken) → (run (final s cs) l n picture).answer ≡ a
      → Last cs (a_run l n picture)
  unfolding picture_left picture_after or_else
  last-run cs l n picture (accepted t) e =
      writes
      (record {
        before = cs;
        lent = l;
        number = n;
        picture = picture;
        inside = begins-self (cs then a_run l n picture);
        answer = t;
        done = e;
      })
      refl (λ p. ap (or_else (λ x. (run (final s cs) l n picture).left) (picture_left s p cs)) e)
  last-run cs l n picture (refused k) e =
      leaves (λ p. ap (or_else (λ x. (run (final s cs) l n picture).left) (picture_left s p cs)) e)

  last : (cs : Calls) (c : Call) → Last cs c
  unfolding picture_left picture_after
  last cs (a_step l) = leaves (λ p. refl)
  last cs (a_run l n picture) = last-run cs l n picture (run (final s cs) l n picture).answer refl
  last cs (a_change memory v) = leaves (λ p. refl)

  -- the picture that a run of the list left, where it is the last call
  left-last : (p : List ℕ) (cs : Calls) (c : Call) (q : RunIn s (cs then c))
      → (q.before then a_run q.lent q.number q.picture) ≡ (cs then c)
      → picture_left s p (cs then c) ≡ left_by s (cs then c) q
  unfolding picture_left picture_after or_else
  left-last p cs c q e =
      ap (picture_left s p) (sym e)
      ∙ ap (or_else (λ x. (run (final s q.before) q.lent q.number q.picture).left) (picture_left s p q.before)) q.done

  module _ (start : s.position ≡ 0) where
    -- an entry that the last call did not write is as the calls before left it
    kept : (p : List ℕ) (cs : Calls) (c : Call) (j : ℕ) → OnePicture s p (cs then c)
        → ((q : RunIn s (cs then c)) (n : ℕ) (x : PixelAt s n) → q.before ≡ cs → RunTakes s (cs then c) q n → entry_of s n x ≡ j → ⊥)
        → get_or (picture_left s p (cs then c)) j 0 ≡ get_or (picture_left s p cs) j 0
    kept p cs c j one none = go (last cs c)
      where
        go : Last cs c → get_or (picture_left s p (cs then c)) j 0 ≡ get_or (picture_left s p cs) j 0
        go (leaves same) = ap (λ (d : List ℕ). get_or d j 0) (same p)
        go (writes q e left) =
            ap (λ (d : List ℕ). get_or d j 0) (left p)
            ∙ run-keeps s (cs then c) q (schedule s start q.before) j (λ n x u k. none q n x e u k)
            ∙ ap (λ (d : List ℕ). get_or d j 0) (one q ∙ ap (picture_left s p) e)

    pub untouched : (p : List ℕ) (calls : Calls) → OnePicture s p calls → (j : ℕ)
        → ((q : RunIn s calls) (n : ℕ) (x : PixelAt s n) → RunTakes s calls q n → entry_of s n x ≡ j → ⊥)
        → get_or (picture_left s p calls) j 0 ≡ get_or p j 0
    unfolding picture_left
    untouched p nothing one j none = refl
    untouched p (cs then c) one j none =
        kept p cs c j one (λ q n x e u k. none q n x u k)
        ∙ untouched p cs (one-front p cs c one) j
        (λ q n x u k. none (longer cs c q) n x (longer-takes cs c q n u) k)

    pub picture-length : (p : List ℕ) (calls : Calls) → OnePicture s p calls → length (picture_left s p calls) ≡ length p
    unfolding picture_left
    picture-length p nothing one = refl
    picture-length p (cs then c) one = go (last cs c) (picture-length p cs (one-front p cs c one))
      where
        go : Last cs c → length (picture_left s p cs) ≡ length p → length (picture_left s p (cs then c)) ≡ length p
        go (leaves same) e = ap length (same p) ∙ e
        go (writes q b left) e =
            ap length (left p)
            ∙ run_length s (cs then c) q (schedule s start q.before)
            ∙ ap length (one q ∙ ap (picture_left s p) b)
            ∙ e

    -- a pixel's clock in the front has the same colour in the longer list
    front-colour : (cs : Calls) (c : Call) (l : Lent) (n : ℕ) (x : PixelAt s n) → n < taken s cs
        → pixel_colour s cs l n x ≡ pixel_colour s (cs then c) l n x
    front-colour cs c l n x h =
        ap (λ (w : Words). draw_pixel (screen w s.screen.window_start) l x.row x.column)
        (sym (frame-words-in-front s cs (cs then c) x.frame (begins-longer cs cs c (begins-self cs)) (omega (arith, x.time))))

    pub last-colour : (p : List ℕ) (calls : Calls) → OnePicture s p calls → (q : RunIn s calls) (n : ℕ) (x : PixelAt s n)
        → RunTakes s calls q n
        → ((q' : RunIn s calls) (n' : ℕ) (x' : PixelAt s n') → RunTakes s calls q' n' → entry_of s n' x' ≡ entry_of s n x → n' ≤ n)
        → accepted (get_or (picture_left s p calls) (entry_of s n x) 0) ≡ pixel_colour s calls q.lent n x
    unfolding Begins
    last-colour p nothing one q n x u latest =
        absurd (not-nothing q.before (a_run q.lent q.number q.picture) q.inside)
    last-colour p (cs then c) one q n x u latest = go q.inside (λ q' u' latest'. last-colour p cs (one-front p cs c one) q' n x u' latest')
      where
        go : ((q.before then a_run q.lent q.number q.picture) ≡ (cs then c)) ⊎ Begins (q.before then a_run q.lent q.number q.picture) cs
            → ((q' : RunIn s cs) → RunTakes s cs q' n
            → ((q'' : RunIn s cs) (n'' : ℕ) (x'' : PixelAt s n'') → RunTakes s cs q'' n'' → entry_of s n'' x'' ≡ entry_of s n x → n'' ≤ n)
            → accepted (get_or (picture_left s p cs) (entry_of s n x) 0) ≡ pixel_colour s cs q'.lent n x)
            → accepted (get_or (picture_left s p (cs then c)) (entry_of s n x) 0) ≡ pixel_colour s (cs then c) q.lent n x
        go (inl e) front =
            ap (λ (d : List ℕ). accepted (get_or d (entry_of s n x) 0)) (left-last p cs c q e)
            ∙ run-shows s (cs then c) q (schedule s start q.before) n x u
        go (inr b) front =
            ap accepted
            (kept p cs c (entry_of s n x) one
            (λ q' n' x' e u' k. omega (arith, earlier, latest q' n' x' u' k, u'.from, ap (taken s) e)))
            ∙ front q-front (record { from = u.from; before = u.before })
            (λ q'' n'' x'' u'' k. latest (longer cs c q'') n'' x'' (longer-takes cs c q'' n'' u'') k)
            ∙ front-colour cs c q.lent n x earlier
          where
            q-front : RunIn s cs
            q-front =
                record {
                  before = q.before;
                  lent = q.lent;
                  number = q.number;
                  picture = q.picture;
                  inside = b;
                  answer = q.answer;
                  done = q.done;
                }

            earlier : n < taken s cs
            earlier =
                omega (
                  arith,
                  u.before,
                  taken_more s q.before (a_run q.lent q.number q.picture),
                  run-clocks s (cs then c) q (schedule s start q.before),
                  taken-front s (q.before then a_run q.lent q.number q.picture) cs b,
                )
