-- The claim about lists of calls (§8), demand 3, proved of every list and every state at position 0, a start's among them; and that a
-- run leaves the state that as many accepted single steps leave (§7.4).
use mathlib.Core.Bool.{false}
use mathlib.Core.List.{List}
use mathlib.Core.Logic.{◌⊎◌, inl, inr}
use mathlib.Core.Path.{◌≡◌, refl, sym, ap, ap₂, ◌∙◌}
use Prim.Native.Nat.{ℕ, zero, suc, ◌+◌, ◌<◌, ◌≤◌}
use native.Mathlib.Decide.{dec_lt}
use native.Mathlib.Omega.{arith}
use lib.ListN.{length}
use Rattle.drawing.specs.Colour.{Lent}
use Rattle.laws.specs.Answers.{Answer, accepted, refused, judged, and_then, or_else, number_of}
use Rattle.laws.proofs.AnswerLaws.{judged-accepted}
use Rattle.drawing.specs.Drawing.{pixels}
use Rattle.memory.specs.Memory.{screen}
use Rattle.registers.specs.Loading.{load, too_short}
use Rattle.registers.specs.declared.Words.{Words}
use Rattle.signals.specs.Clock.{clock_at}
use Rattle.scanout.specs.declared.run.Taken.{Taken}
use Rattle.scanout.specs.declared.step.Shown.{Shown}
use Rattle.scanout.specs.Calls.{begun, start, next_colour, judge_step, step, run}
use Rattle.scanout.specs.FrameByFrame.{pixel_time, frame_colour, Takes, TakenBy, by-step, by-run, Demand3, Demand3FromStart, single_steps, RunIsSteps}
use Rattle.scanout.specs.Lists.{Call, a_step, a_run, a_change, refusal, next, clocks, Calls, nothing, ◌then◌, Begins, final, taken, last_viewport, picture_left}
use Rattle.scanout.specs.Refusals.{judge_start}
use Rattle.scanout.specs.State.{shown_words, advance, after}
use Rattle.scanout.specs.declared.state.State.{State}
use Rattle.scanout.proofs.Acceptance.{Passed, judged-passed, as_step, advance-passes}
use Rattle.scanout.proofs.Effects.{run-passed, run-count, run-next, unchanged, refused-answer, refused-run-left}
use Rattle.scanout.proofs.Fronts.{begins-self, begins-longer, not-nothing, same-front, taken_more, taken-front}
use Rattle.scanout.proofs.Pictures.{untouched, picture-length, last-colour}
use Rattle.scanout.proofs.PixelTimes.{pixel-in-frame, reading-order, one-pixel}
use Rattle.scanout.proofs.Runs.{run-counts, run-clocks, run-shows, run-keeps, run_length}
use Rattle.scanout.proofs.Schedule.{Schedule, schedule}
use Rattle.scanout.proofs.Steps.{step_counts, step-shows, step-blank, step-active, step-vsync, step-hsync}

-- ---- each clock is taken by one call

module _ (s : State) where
  longer : (cs : Calls) (c : Call) (n : ℕ) → Takes s cs n → Takes s (cs then c) n
  longer cs c n t =
      record {
        before = t.before;
        call = t.call;
        inside = begins-longer (t.before then t.call) cs c t.inside;
        from = t.from;
        past = t.past;
      }

  each-clock : (calls : Calls) (n : ℕ) → n < taken s calls → Takes s calls n
  unfolding taken
  each-clock nothing n h = absurd (omega arith)
  each-clock (cs then c) n h = go (dec_lt n (taken s cs)) (λ l. each-clock cs n l)
    where
      go : Dec (n < taken s cs) → (n < taken s cs → Takes s cs n) → Takes s (cs then c) n
      go (yes l) front = longer cs c n (front l)
      go (no l) front =
          record { before = cs; call = c; inside = begins-self (cs then c); from = omega arith; past = h }

  -- the last call and one before it never take the same clock
  apart : (cs : Calls) (c : Call) (n : ℕ) (p q : Takes s (cs then c) n) → (p.before then p.call) ≡ (cs then c)
      → Begins (q.before then q.call) cs → ⊥
  apart cs c n p q e b =
      omega (
        arith,
        p.from,
        q.past,
        ap (taken s) (same-front p.before cs p.call c e),
        taken-front s (q.before then q.call) cs b,
      )

  once : (calls : Calls) (n : ℕ) (p q : Takes s calls n) → (p.before then p.call) ≡ (q.before then q.call)
  unfolding Begins
  once nothing n p q = absurd (not-nothing p.before p.call p.inside)
  once (cs then c) n p q = go p.inside q.inside (λ p' q'. once cs n p' q')
    where
      In : Calls → Call → Type 0
      In before call = ((before then call) ≡ (cs then c)) ⊎ Begins (before then call) cs

      go : In p.before p.call → In q.before q.call
          → ((p' q' : Takes s cs n) → (p'.before then p'.call) ≡ (q'.before then q'.call))
          → (p.before then p.call) ≡ (q.before then q.call)
      go (inl e) (inl e') front = e ∙ sym e'
      go (inl e) (inr b) front = absurd (apart cs c n p q e b)
      go (inr b) (inl e) front = absurd (apart cs c n q p e b)
      go (inr b) (inr b') front =
          front
          (record { before = p.before; call = p.call; inside = b; from = p.from; past = p.past })
          (record { before = q.before; call = q.call; inside = b'; from = q.from; past = q.past })

  -- a call that takes a clock is an accepted step or run
  module _ (calls before : Calls) (n : ℕ) (h : taken s before ≤ n) where
    of-step : (l : Lent) (a : Answer Shown) → step (final s before) l ≡ a → Begins (before then a_step l) calls
        → n < taken s (before then a_step l) → TakenBy s calls n
    unfolding taken clocks or_else
    of-step l (accepted k) e b p =
        by-step (record { before = before; lent = l; inside = b; shown = k; done = e })
        (omega (arith, h, p, ap {B = ℕ} (or_else (λ x. 1) 0) e))
    of-step l (refused k) e b p = absurd (omega (arith, h, p, ap {B = ℕ} (or_else (λ x. 1) 0) e))

    of-run : (l : Lent) (m : ℕ) (picture : List ℕ) (a : Answer Taken) → (run (final s before) l m picture).answer ≡ a
        → Begins (before then a_run l m picture) calls → n < taken s (before then a_run l m picture) → TakenBy s calls n
    unfolding taken clocks or_else
    of-run l m picture (accepted t) e b p =
        by-run (record { before = before; lent = l; number = m; picture = picture; inside = b; answer = t; done = e })
        (record { from = h; before = omega (arith, p, ap (or_else (λ x. x.count) 0) e) })
    of-run l m picture (refused k) e b p = absurd (omega (arith, h, p, ap (or_else (λ x. x.count) 0) e))

    by-which : (c : Call) → Begins (before then c) calls → n < taken s (before then c) → TakenBy s calls n
    unfolding taken clocks
    by-which (a_step l) b p = of-step l (step (final s before) l) refl b p
    by-which (a_run l m picture) b p = of-run l m picture (run (final s before) l m picture).answer refl b p
    by-which (a_change memory v) b p = absurd (omega (arith, h, p))

  -- ---- refused calls

  refused-leaves : (before : Calls) (c : Call) → (refusal (final s before) c ≡ 0 → ⊥)
      → (final s (before then c) ≡ final s before)
      × (taken s (before then c) ≡ taken s before)
      × (last_viewport s (before then c) ≡ last_viewport s before)
      × ((p : List ℕ) → picture_left s p (before then c) ≡ picture_left s p before)
  unfolding final taken last_viewport picture_left
  refused-leaves before c ne =
      let u = unchanged (final s before) c ne in (
        u.state,
        omega (arith, u.none),
        u.view (last_viewport s before),
        λ p. u.picture (picture_left s p before),
      )

-- ---- the claim

pub demand-3 : Demand3
demand-3 s start calls =
    record {
      position = (whole calls).position;
      run-counts = λ q. run-counts s calls q (whole q.before);
      run-takes = λ q.
          taken_more s q.before (a_run q.lent q.number q.picture)
          ∙ ap (λ (k : ℕ). taken s q.before + k) (run-clocks s calls q (whole q.before));
      step-takes = λ q.
          taken_more s q.before (a_step q.lent)
          ∙ ap (λ (k : ℕ). taken s q.before + k) (step_counts s calls q (whole q.before));
      step-shows = λ q x. step-shows s calls q (whole q.before) x;
      step-blank = λ q none. step-blank s calls q (whole q.before) none;
      step-active = λ q active. step-active s calls q (whole q.before) active;
      step-vsync = λ q. step-vsync s calls q (whole q.before);
      step-hsync = λ q. step-hsync s calls q (whole q.before);
      run-shows = λ q n x u. run-shows s calls q (whole q.before) n x u;
      run-keeps = λ q j none. run-keeps s calls q (whole q.before) j none;
      run_length = λ q. run_length s calls q (whole q.before);
      refused-leaves = λ before c b ne. refused-leaves s before c ne;
      refused-keeps = λ before l n picture b ne.
          refused-run-left (final s before) l n picture (refusal (final s before) (a_run l n picture))
          (refused-answer (final s before) l n picture ne);
      each-clock = λ n h. each-clock s calls n h;
      once = λ n p q. once s calls n p q;
      by-which = λ n t. by-which s calls t.before n t.from t.call t.inside t.past;
      pixel-in-frame = λ f r c o. pixel-in-frame s f r c o;
      one-pixel = λ n x y. one-pixel s n x y;
      whole-frame = λ f h r c o. each-clock s calls (pixel_time s f r c) (omega (arith, h, (pixel-in-frame s f r c o).before));
      reading-order = λ f r c r' c' o o' l. reading-order s f r c r' c' o o' l;
      one-colour = λ same f r c n m p q a b. ap (λ (l : Lent). frame_colour s calls f l r c) (same f n m p q a b);
      last-colour = λ p one q n x u latest. last-colour s start p calls one q n x u latest;
      untouched = λ p one j none. untouched s start p calls one j none;
      picture-length = λ p one. picture-length s start p calls one;
    }
  where
    whole : (cs : Calls) → Schedule s cs
    whole cs = schedule s start cs

-- a start gives a state at position 0
pub started-at-0 : (words : List ℕ) (window-start : ℕ) (memory : List ℕ) (s : State) → start words window-start memory ≡ accepted s
    → s.position ≡ 0
unfolding start and_then
started-at-0 words window-start memory s e = go (load words) e
  where
    go : (a : Answer Words) → and_then a (λ w. judged (judge_start (screen w window-start) (length memory)) (begun (screen w window-start))) ≡ accepted s
        → s.position ≡ 0
    go (accepted w) e' =
        ap (λ (t : State). t.position)
        (sym (judged-accepted (judge_start (screen w window-start) (length memory)) (begun (screen w window-start)) s e').1)
    go (refused n) e' = let z : ◌≡◌ {A = ℕ} 0 1 = cc in absurd (omega arith)

pub demand-3-from-start : Demand3FromStart
demand-3-from-start words window-start memory s e calls = demand-3 s (started-at-0 words window-start memory s e) calls

-- ---- a run is as many steps

stepped : (s : State) (l : Lent) → Passed s (length l.memory) (length l.palette) false
    → step s l
    ≡ accepted (record { clock = clock_at (shown_words s) s.position (next_colour s l); next = advance s })
unfolding step judge_step judged
stepped s l p =
    ap (λ (k : ℕ). judged k (record { clock = clock_at (shown_words s) s.position (next_colour s l); next = advance s }))
    (judged-passed s (length l.memory) (length l.palette) false p)

record Stepping (s : State) (l : Lent) (n : ℕ) : Type 0 where
  state : final s (single_steps l n) ≡ after n s
  count : taken s (single_steps l n) ≡ n
  passes : Passed (after n s) (length l.memory) (length l.palette) false

stepping : (s : State) (l : Lent) → Passed s (length l.memory) (length l.palette) false → (n : ℕ) → Stepping s l n
unfolding final taken after next clocks or_else single_steps
stepping s l p zero = record { state = refl; count = refl; passes = p }
stepping s l p (suc n) =
    let i = stepping s l p n in
    let done = stepped (after n s) l i.passes in
    record {
      state = ap (λ (t : State). next t (a_step l)) i.state ∙ ap (or_else (λ k. k.next) (after n s)) done;
      count =
          ap₂ (λ (k : ℕ) (t : State). k + clocks t (a_step l)) i.count i.state
          ∙ ap (λ (a : Answer Shown). n + or_else (λ k. 1) 0 a) done
          ∙ omega arith;
      passes = advance-passes (after n s) (length l.memory) (length l.palette) false i.passes;
    }

pub run-is-steps : RunIsSteps
unfolding refusal number_of
run-is-steps s l n picture t e = (
  (steps t.count).state ∙ ap (λ (k : ℕ). after k s) (run-count s l n picture t e) ∙ sym (run-next s l n picture t e),
  (steps t.count).count,
  λ k h. ap (λ (u : State). refusal u (a_step l)) (steps k).state ∙ ap number_of (stepped (after k s) l (steps k).passes),
)
  where
    steps : (k : ℕ) → Stepping s l k
    steps k = stepping s l (as_step s (length l.memory) (length l.palette) (too_short (length picture) (pixels s.screen.words)) (run-passed s l n picture t e)) k
