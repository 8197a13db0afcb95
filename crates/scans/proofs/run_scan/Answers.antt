-- `scans::run_scan` meets its contract: with an entry for the count it is judged as the scan's run.
use Rattle.std.specs.Prelude.{◌≡◌, ◌<◌, Bool, true, false, ◌||◌, List, ℕ, zero, suc, length, set}
use Rattle.std.proofs.Common.{refl, sym, ap, ap₂, ◌∙◌, arith}
use Rattle.std.proofs.lemmas.Bool.{lt-ltb, le-ltb}
use Rattle.std.proofs.lemmas.List.{set-get_or}
use Rattle.laws.specs.Answers.{Answer, accepted, refused, judged_on, outcome}
use Rattle.laws.specs.BooleanLaws.{or-never, or-true}
use Rattle.laws.proofs.AnswerLaws.{judged-accepted, judged-refused, judges-on, goes_on, passes_on}
use Rattle.panel.proofs.Bounds.{frame-clocks-le}
use Rattle.registers.specs.Loading.{too_short}
use Rattle.registers.specs.Refusals.{number, code}
use Rattle.registers.proofs.Refusals.{exit-code}
use Rattle.drawing.specs.Colour.{Lent, lending}
use Rattle.drawing.specs.Drawing.{pixels}
use Rattle.scanout.specs.Calls.{Run, count_of, drawn, judge_run, run, running}
use Rattle.scanout.specs.Refusals.{judge_scan}
use Rattle.scanout.specs.State.{after}
use Rattle.scanout.specs.declared.run.Taken.{Taken}
use Rattle.scanout.specs.declared.state.State.{State}
use Rattle.scans.specs.Scan.{load_scan, short_of_count, run_on, run_leaves, run_left, run_scan}
use Rattle.scans.proofs.Calls.{loaded, read, state-put, stays, not-loaded, short-is-refused}
use Rattle.scans.proofs.run_scan.Goals as goal

left-written : (n : ℕ) (was written : List ℕ) → n ≡ 0 → (outcome n was written).left ≡ written
unfolding outcome
left-written n was written z = ap (λ (k : ℕ). (outcome k was written).left) z

left-as-it-was : (n : ℕ) (was written : List ℕ) → 0 < n → (outcome n was written).left ≡ was
unfolding outcome
left-as-it-was zero was written h = absurd (omega arith)
left-as-it-was (suc n) was written h = refl

-- what the scan's run gives
module _ (s : State) (l : Lent) (n : ℕ) (picture : List ℕ) (x : Answer Taken) (left : List ℕ) (is : running x left ≡ run s l n picture) where
  abbrev done : Taken
  done = record { count = count_of s n; next = after (count_of s n) s }

  answer-is : x ≡ (run s l n picture).answer
  answer-is = ap (λ (r : Run). r.answer) is

  module _ (t : Taken) (e : accepted t ≡ x) where
    passes : (judge_run s l picture ≡ 0) × (done ≡ t)
    unfolding run
    passes = judged-accepted (judge_run s l picture) done t (sym (e ∙ answer-is))

    counted : count_of s n ≡ t.count
    counted = ap (λ (k : Taken). k.count) passes.1

    -- a frame has at most 4,300,800 clocks
    count-fits : t.count < 4294967296
    unfolding count_of
    count-fits = omega (arith, counted, frame-clocks-le s.screen.words)

    picture-drawn : left ≡ drawn t.count s l picture
    unfolding run
    picture-drawn =
        ap (λ (r : Run). r.left) is
        ∙ left-written (judge_run s l picture) picture (drawn (count_of s n) s l picture) passes.0
        ∙ ap (λ (k : ℕ). drawn k s l picture) counted

  picture-stays : (m : ℕ) → refused m ≡ x → left ≡ picture
  unfolding run
  picture-stays m e =
      ap (λ (r : Run). r.left) is
      ∙ left-as-it-was (judge_run s l picture) picture (drawn (count_of s n) s l picture)
      (judged-refused (judge_run s l picture) done m (sym (e ∙ answer-is))).1

enough : (taken : List ℕ) → 0 < length taken → short_of_count taken ≡ false
unfolding too_short
enough taken h = le-ltb (length taken) 1 (omega arith)

as-run : (s : State) (l : Lent) (n : ℕ) (picture taken : List ℕ) → short_of_count taken ≡ false
    → (run s l n picture).answer ≡ run_on s l n picture taken
unfolding run judge_run run_on
as-run s l n picture taken room = rw (room, or-never) refl

module _ (scan memory palette : List ℕ) (n : ℕ) (picture taken : List ℕ) where
  abbrev lent : Lent
  lent = lending memory palette

  unread : length scan < 13 → run_leaves 10 scan picture taken ≡ run_scan scan memory palette n picture taken
  unfolding run_scan run_left
  unread t = ap (run_left lent scan picture taken) (passes_on (load_scan scan) (λ s. run_on s lent n picture taken) 10 (not-loaded scan t))

  -- no entry for the count
  short : (r : ℕ) → short_of_count taken ≡ true
      → r ≡ judged_on (load_scan scan) (λ s. judge_scan s (length memory) (length palette) true)
      → run_leaves r scan picture taken ≡ run_scan scan memory palette n picture taken
  unfolding run_scan run_on run_left
  short r t e =
      ap (run_left lent scan picture taken)
      (short-is-refused (length memory) (length palette) (λ s. small s || short_of_count taken)
      (λ s. ap (λ (b : Bool). small s || b) t ∙ or-true (small s)) _ (load_scan scan) r e)
    where
      small : State → Bool
      small s = too_short (length picture) (pixels s.screen.words)

  -- with it it is the scan's run
  runs : (s : State) (x : Answer Taken) → accepted s ≡ load_scan scan → short_of_count taken ≡ false → x ≡ (run s lent n picture).answer
      → run_left lent scan picture taken x ≡ run_scan scan memory palette n picture taken
  unfolding run_scan
  runs s x loads room e =
      ap (run_left lent scan picture taken)
      (goes_on (load_scan scan) (λ t. run_on t lent n picture taken) s x loads (e ∙ as-run s lent n picture taken room))

pub returns-in_default : goal.returns-in_default
returns-in_default c = unread _ _ _ _ _ _ c.in_default.ensures.cases

pub returns-in_default-first_mut : goal.returns-in_default-first_mut
unfolding too_short
returns-in_default-first_mut c =
    let scan = c.args.scan.now in
    let entries = c.in-Some.entries.now in
    let chunk = c.in-Some.ensures.cases in
    let none = c.in_default-first_mut.ensures.item in
    ap (λ (s : List ℕ). run_leaves (code c.judge_scan.result) s c.args.picture.now c.args.taken.now) (stays 13 scan entries chunk)
    ∙ short _ _ _ _ _ _ _ (lt-ltb _ _ (omega arith))
    (judges-on _ _ c.from-s.result _ (loaded scan entries chunk c.from-s.result c.from-s.ensures) c.judge_scan.ensures)

pub returns-in_err-t : goal.returns-in_err-t
unfolding run_left
returns-in_err-t c =
    let a = c.args in
    let scan = a.scan.now in
    let entries = c.in-Some.entries.now in
    let chunk = c.in-Some.ensures.cases in
    let code-is = code c.from_residual.result in
    let refusal = c.in_err-t.field-0.0 in
    let item = c.in-Some-first_mut.ensures.item in
    let count = c.in-Some-first_mut.count.now in
    let same : set a.taken.now 0 count ≡ a.taken.now = ap (set a.taken.now 0) (item.3.1 0) ∙ set-get_or a.taken.now 0 0 in
    ap (λ (s : List ℕ). run_leaves code-is s c.run.new.picture (set a.taken.now 0 count)) (stays 13 scan entries chunk)
    ∙ ap₂ (run_leaves code-is scan) (picture-stays _ _ _ _ _ _ c.in_err-t.ensures (number refusal) refl) same
    ∙ ap (λ (n : ℕ). run_leaves n scan a.picture.now a.taken.now) (exit-code c.from_residual.result refusal c.from_residual.ensures.1)
    ∙ runs scan _ _ a.clocks a.picture.now a.taken.now c.from-s.result (refused (number refusal))
    (loaded scan entries chunk c.from-s.result c.from-s.ensures) (enough a.taken.now (omega arith))
    (answer-is _ _ _ _ _ _ c.in_err-t.ensures)

pub overflow_cast-count : goal.overflow_cast-count
overflow_cast-count c = record { fits = count-fits _ _ _ _ _ _ c.in_ok-t.ensures c.in_ok-t.t refl }

pub returns : goal.returns
unfolding run_left
returns c =
    let a = c.args in
    let scan = a.scan.now in
    let entries = c.in-Some.entries.now in
    let chunk = c.in-Some.ensures.cases in
    let t = c.in_ok-t.t in
    let item = c.in-Some-first_mut.ensures.item in
    ap₂ (λ (s p : List ℕ). run_leaves 0 s p (set a.taken.now 0 t.count))
    (state-put scan entries chunk t.next c.into.result c.into.ensures)
    (picture-drawn _ _ _ _ _ _ c.in_ok-t.ensures t refl
    ∙ ap (λ (k : State). drawn t.count k (lending a.lent.video.now a.lent.palette.now) a.picture.now)
    (read scan entries chunk c.from-s.result c.from-s.ensures))
    ∙ runs scan _ _ a.clocks a.picture.now a.taken.now c.from-s.result (accepted t)
    (loaded scan entries chunk c.from-s.result c.from-s.ensures) (enough a.taken.now (omega arith))
    (answer-is _ _ _ _ _ _ c.in_ok-t.ensures)
