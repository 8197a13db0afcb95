-- No mixture is drawn or scanned (§8.7): the proof of the claim in specs/NoMixture. Each of these calls judges 9.
use mathlib.Core.Bool.{Bool, false}
use mathlib.Core.List.{List, [], ◌∷◌, ◌++◌}
use mathlib.Core.Path.{◌≡◌, refl, sym, ◌∙◌}
use Prim.Native.Nat.{ℕ}
use lib.Dec.{lit<}
use lib.ListN.{length}
use Rattle.laws.specs.Answers.{Answer, accepted, refused, judged, number_of, and_then, Outcome, leaves, outcome, outcome_on}
use Rattle.laws.proofs.AnswerLaws.{judged-number, then-went-on, outcome-number, outcome-went-on}
use Rattle.laws.specs.Cases.{Case, ◌when◌, lowest}
use Rattle.laws.proofs.CaseLaws.{does-not-hold}
use Rattle.drawing.specs.Colour.{Lent, lending}
use Rattle.drawing.specs.Drawing as Drawing
use Rattle.memory.specs.Memory.{screen}
use Rattle.panel.specs.Refusals.{word_cases_where, video_off}
use Rattle.registers.specs.Loading.{nine_words}
use Rattle.registers.specs.declared.Words.{Words}
use Rattle.scanout.specs.Calls.{start, begun, with_pending, change}
use Rattle.scanout.specs.Refusals.{viewport_cases, state_cases, judge_start, judge_scan, judge_change}
use Rattle.scanout.specs.declared.run.Taken.{Taken}
use Rattle.scanout.specs.declared.step.Shown.{Shown}
use Rattle.scanout.specs.State.{state_of}
use Rattle.scanout.specs.declared.state.State.{State}
use Rattle.scanout.specs.declared.state.Viewport.{Viewport}
use Rattle.scans.specs.Scan.{put_state, load_scan, start_scan, put_started, step_on, step_left, step_scan, run_on, run_left, run_scan, change_on, change_scan}
use Rattle.settings.proofs.CutLoads.{whole-shown, whole-scanned}
use Rattle.stn.specs.Drawing as Stn
use Rattle.lcd.specs.Calls.{draw_row, draw_picture, draw_stn}
use Rattle.lcd.specs.Pixel.{draw_pixel, draw_pixel_in}
use Rattle.lcd.specs.NoMixture.{NoMixture}

-- 1 to 8, 9 and others give no number: video is on
abbrev showing : Bool → Bool → Words → List Case → ℕ
showing other outside w rest = lowest ((word_cases_where other w ++ (8 when outside ∷ [])) ++ (9 when video_off w ∷ rest))

module _ (other outside : Bool) (w : Words) (rest : List Case) where
  video-on : showing other outside w rest ≡ 0 → video_off w ≡ false
  video-on e = does-not-hold (word_cases_where other w ++ (8 when outside ∷ [])) 9 (video_off w) rest (lit< tt) e

  drawn-on : (was written : List ℕ) → (outcome (showing other outside w rest) was written).refusal ≡ 0 → video_off w ≡ false
  drawn-on was written e = video-on (sym (outcome-number _ was written) ∙ e)

  abbrev starting_in : State → List ℕ → Outcome
  starting_in s scan = outcome_on (judged (showing other outside w rest) s) scan (λ t. put_started t scan)

  started-on : (s : State) (scan : List ℕ) → (starting_in s scan).refusal ≡ 0 → video_off w ≡ false
  started-on s scan e = video-on (outcome-went-on _ s scan (λ t. put_started t scan) e).0

-- ---- a scan in the block

module _ (s : State) (lent entries : ℕ) (short : Bool) where
  scanned-on : judge_scan s lent entries short ≡ 0 → video_off s.screen.words ≡ false
  unfolding judge_scan
  scanned-on e = does-not-hold (state_cases s lent) 9 (video_off s.screen.words) _ (lit< tt) e

step-number : (scan clock : List ℕ) (a : Answer Shown) → (step_left scan clock a).refusal ≡ number_of a
unfolding step_left number_of
step-number scan clock (accepted k) = refl
step-number scan clock (refused n) = refl

run-number : (l : Lent) (scan picture taken : List ℕ) (a : Answer Taken) → (run_left l scan picture taken a).refusal ≡ number_of a
unfolding run_left number_of
run-number l scan picture taken (accepted t) = refl
run-number l scan picture taken (refused n) = refl

module _ (memory palette scan : List ℕ) where
  stepped-on : (clock : List ℕ) → (step_scan scan memory palette clock).refusal ≡ 0 → video_off (nine_words scan) ≡ false
  unfolding step_scan step_on load_scan
  stepped-on clock e =
      scanned-on _ _ _ _ (sym (judged-number _ _) ∙ (then-went-on _ _ _ (sym (step-number scan clock _) ∙ e)).1)

  run-on : (n : ℕ) (picture taken : List ℕ) → (run_scan scan memory palette n picture taken).refusal ≡ 0
      → video_off (nine_words scan) ≡ false
  unfolding run_scan run_on load_scan
  run-on n picture taken e =
      scanned-on _ _ _ _
      (sym (judged-number _ _) ∙ (then-went-on _ _ _ (sym (run-number (lending memory palette) scan picture taken _) ∙ e)).1)

changed-on : (memory scan : List ℕ) (a b : ℕ) → (change_scan scan memory a b).refusal ≡ 0 → video_off (nine_words scan) ≡ false
unfolding change_scan change_on change judge_change load_scan
changed-on memory scan a b e =
    does-not-hold (state_cases s (length memory) ++ viewport_cases s v (length memory)) 9 (video_off s.screen.words) _ (lit< tt)
    (outcome-went-on _ (with_pending s v) scan (λ t. leaves 0 (put_state t scan)) (outcome-went-on _ s scan _ e).1).0
  where
    s : State
    s = state_of scan

    v : Viewport
    v = record { lcdsaddr1 = a; lcdsaddr2 = b }

pub no-mixture : NoMixture
unfolding outcome_on draw_pixel draw_pixel_in draw_row draw_picture draw_stn Drawing.judge_pixel Drawing.draw_row Drawing.judge_row Drawing.draw_picture Drawing.judge_picture Drawing.judge_drawing Stn.draw_stn Stn.judge_stn_drawing start_scan start and_then judge_start
no-mixture =
    record {
      pixel = λ window-start l r c out.
          whole-shown (λ a. outcome_on a out (λ w. draw_pixel_in (screen w window-start) l r c out)) (λ w. drawn-on _ _ w _ _ _);
      row = λ window-start l r row.
          whole-shown (λ a. outcome_on a row (λ w. Drawing.draw_row (screen w window-start) l r row)) (λ w. drawn-on _ _ w _ _ _);
      picture = λ window-start l picture.
          whole-shown (λ a. outcome_on a picture (λ w. Drawing.draw_picture (screen w window-start) l picture))
          (λ w. drawn-on _ _ w _ _ _);
      stn = λ window-start memory f out.
          whole-shown (λ a. outcome_on a out (λ w. Stn.draw_stn (screen w window-start) memory f out)) (λ w. drawn-on _ _ w _ _ _);
      start = λ window-start memory scan.
          whole-shown
          (λ a.
          outcome_on (and_then a (λ w. judged (judge_start (screen w window-start) (length memory)) (begun (screen w window-start)))) scan
          (λ s. put_started s scan))
          (λ w. started-on _ _ w _ _ scan);
      step = λ memory palette clock.
          whole-scanned (λ scan. step_scan scan memory palette clock) (λ o. o.refusal)
          (λ scan. stepped-on memory palette scan clock);
      run = λ memory palette n picture taken.
          whole-scanned (λ scan. run_scan scan memory palette n picture taken) (λ o. o.refusal)
          (λ scan. run-on memory palette scan n picture taken);
      change = λ memory a b.
          whole-scanned (λ scan. change_scan scan memory a b) (λ o. o.refusal) (λ scan. changed-on memory scan a b);
    }
