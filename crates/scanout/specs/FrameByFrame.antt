-- What any list of steps, runs and viewport changes guarantees (§8): demand 3 (§14.1). The clocks taken fill one frame after the other;
-- every pixel of a frame is shown at its own clock (§6.6), in the colour that the frame's viewport gives it; all other clocks are blank.
-- One record, `FrameByFrame`, holds the whole claim. proofs/FrameByFrame proves it for every state at position 0 and every list of
-- calls, whatever memory, palette and picture each of them is lent. It is the claim, so a reader must believe it.
-- Throughout, s is the state that the list begins with, and a clock's number is its place among all clocks taken, from 0.
use Rattle.std.specs.Prelude.{true, false, List, ◌≡◌, ℕ, zero, suc, ◌+◌, ◌-◌, ◌*◌, ◌/◌, ◌%◌, min, ◌<◌, ◌≤◌, ltb, length, get_or}
use Rattle.laws.specs.Answers.{Answer, accepted}
use Rattle.drawing.specs.Colour.{Lent}
use Rattle.drawing.specs.Drawing.{draw_pixel}
use Rattle.memory.specs.Memory.{screen}
use Rattle.panel.specs.Geometry.{width, height}
use Rattle.panel.specs.Timing.{timing, line_clocks}
use Rattle.registers.specs.Fields.{vspw, hspw}
use Rattle.registers.specs.declared.Words.{Words}
use Rattle.signals.specs.Clock.{vsync_active, hsync_active, vden_active, before_invvd}
use Rattle.signals.specs.Pixel.{pixel_clock}
use Rattle.scanout.specs.declared.run.Taken.{Taken}
use Rattle.scanout.specs.declared.step.Shown.{Shown}
use Rattle.scanout.specs.Calls.{start, step, run}
use Rattle.scanout.specs.Lists.{Call, a_step, a_run, lent_to, refusal, Calls, nothing, ◌then◌, Begins, final, taken, last_viewport, picture_left, frame_words}
use Rattle.scanout.specs.State.{frame_of}
use Rattle.scanout.specs.declared.state.State.{State}

-- ---- frames and pixels

-- clock n is one of frame f (§8.2): a frame is L × C clocks, and the first frame is frame 0
pub record InFrame (s : State) (f n : ℕ) : Type 0 where
  pub from : f * frame_of s ≤ n
  pub before : n < (f + 1) * frame_of s

-- the panel has row r and column c (§2.1)
pub record OnPanel (w : Words) (r c : ℕ) : Type 0 where
  pub row : r < height w
  pub column : c < width w

-- the clock of the pixel in row r, column c of frame f (§8.4): f × L × C plus its position in the frame (§6.6)
abbrev pub pixel_time : State → ℕ → ℕ → ℕ → ℕ
pixel_time s f r c = f * frame_of s + pixel_clock (timing s.screen.words) r c

-- clock n is the clock of a pixel: of this frame, row and column
pub record PixelAt (s : State) (n : ℕ) : Type 0 where
  pub frame : ℕ
  pub row : ℕ
  pub column : ℕ
  pub on-panel : OnPanel s.screen.words row column
  pub time : n ≡ pixel_time s frame row column

-- that pixel's entry of a picture: r × W + c
abbrev pub entry_of : (s : State) (n : ℕ) → PixelAt s n → ℕ
entry_of s n x = x.row * width s.screen.words + x.column

-- the colour of a pixel of frame f (§8.4): the answer of drawing that pixel alone (§5.6), from the words that frame f is scanned with
-- (§8.3), the window start of s, and the memory and palette of l
abbrev pub frame_colour : State → Calls → ℕ → Lent → ℕ → ℕ → Answer ℕ
frame_colour s calls f l r c =
    draw_pixel (screen (frame_words s calls f) s.screen.window_start) l r c

-- the colour of the pixel of clock n
abbrev pub pixel_colour : (s : State) → Calls → Lent → (n : ℕ) → PixelAt s n → Answer ℕ
pixel_colour s calls l n x = frame_colour s calls x.frame l x.row x.column

-- ---- the calls of the list

-- an accepted step of the list, with the calls before it and what it gave
pub record StepIn (s : State) (calls : Calls) : Type 0 where
  pub before : Calls
  pub lent : Lent
  pub inside : Begins (before then a_step lent) calls
  pub shown : Shown
  pub done : step (final s before) lent ≡ accepted shown

-- an accepted run of the list, with the calls before it and what it gave
pub record RunIn (s : State) (calls : Calls) : Type 0 where
  pub before : Calls
  pub lent : Lent
  pub number : ℕ
  pub picture : List ℕ
  pub inside : Begins (before then a_run lent number picture) calls
  pub answer : Taken
  pub done : (run (final s before) lent number picture).answer ≡ accepted answer

-- the picture that it leaves
abbrev pub left_by : (s : State) (calls : Calls) → RunIn s calls → List ℕ
left_by s calls q = (run (final s q.before) q.lent q.number q.picture).left

-- clock n is one of those that the run takes
pub record RunTakes (s : State) (calls : Calls) (q : RunIn s calls) (n : ℕ) : Type 0 where
  pub from : taken s q.before ≤ n
  pub before : n < taken s q.before + q.answer.count

-- a call of the list that takes clock n
pub record Takes (s : State) (calls : Calls) (n : ℕ) : Type 0 where
  pub before : Calls
  pub call : Call
  pub inside : Begins (before then call) calls
  pub from : taken s before ≤ n
  pub past : n < taken s (before then call)

-- clock n is taken by an accepted step or by an accepted run
pub data TakenBy (s : State) (calls : Calls) (n : ℕ) : Type 0 where
  by-step : (q : StepIn s calls) → taken s q.before ≡ n → TakenBy s calls n
  by-run : (q : RunIn s calls) → RunTakes s calls q n → TakenBy s calls n

-- any two calls that take clocks of the same frame are lent equal memories and equal palettes (§8.4)
abbrev pub SameLent : State → Calls → Type 0
SameLent s calls =
    (f n m : ℕ) (p : Takes s calls n) (q : Takes s calls m) → InFrame s f n → InFrame s f m
    → lent_to p.call ≡ lent_to q.call

-- all accepted runs share one picture, p at first (§8.5): each is lent it as the run before left it
abbrev pub OnePicture : State → List ℕ → Calls → Type 0
OnePicture s p calls = (q : RunIn s calls) → q.picture ≡ picture_left s p q.before

-- ---- the claim

pub record FrameByFrame (s : State) (calls : Calls) : Type 0 where
  -- §8.2: the position that the list leaves is the number of clocks taken, modulo L × C
  pub position : (final s calls).position ≡ taken s calls % frame_of s
  -- §8.2: the count that an accepted run reports is what it was asked for, or what was left of the frame where that is less
  pub run-counts : (q : RunIn s calls)
      → q.answer.count ≡ min q.number (frame_of s - taken s q.before % frame_of s)
  -- §8.2: an accepted run takes as many clocks as it reports
  pub run-takes : (q : RunIn s calls)
      → taken s (q.before then a_run q.lent q.number q.picture) ≡ taken s q.before + q.answer.count
  -- §8.2: an accepted step takes one clock
  pub step-takes : (q : StepIn s calls) → taken s (q.before then a_step q.lent) ≡ taken s q.before + 1
  -- §8.4: a step that takes a pixel's clock shows it: VDEN is active, and the data word, INVVD undone, is the pixel's colour
  pub step-shows : (q : StepIn s calls) (x : PixelAt s (taken s q.before))
      → (vden_active s.screen.words q.shown.clock ≡ true)
      × (accepted (before_invvd s.screen.words q.shown.clock) ≡ pixel_colour s calls q.lent (taken s q.before) x)
  -- §8.4: a step that takes any other clock is blank: VDEN is not active, and the data word, INVVD undone, is 0
  pub step-blank : (q : StepIn s calls) → (PixelAt s (taken s q.before) → ⊥)
      → (vden_active s.screen.words q.shown.clock ≡ false) × (before_invvd s.screen.words q.shown.clock ≡ 0)
  -- §8.4: a step with VDEN active has taken a pixel's clock
  pub step-active : (q : StepIn s calls) → vden_active s.screen.words q.shown.clock ≡ true → PixelAt s (taken s q.before)
  -- §8.4: VSYNC is active in the first VSPW+1 lines of a frame and in no other
  pub step-vsync : (q : StepIn s calls)
      → vsync_active s.screen.words q.shown.clock
      ≡ ltb (taken s q.before % frame_of s / line_clocks (timing s.screen.words)) (vspw s.screen.words + 1)
  -- §8.4: HSYNC is active at the first HSPW+1 clocks of each line and at no other
  pub step-hsync : (q : StepIn s calls)
      → hsync_active s.screen.words q.shown.clock
      ≡ ltb (taken s q.before % frame_of s % line_clocks (timing s.screen.words)) (hspw s.screen.words + 1)
  -- §8.4: a run that takes a pixel's clock leaves the pixel's colour in the pixel's entry of its picture
  pub run-shows : (q : RunIn s calls) (n : ℕ) (x : PixelAt s n) → RunTakes s calls q n
      → accepted (get_or (left_by s calls q) (entry_of s n x) 0) ≡ pixel_colour s calls q.lent n x
  -- §8.4: a run changes no other entry: one whose pixel has no clock in the run is as it was, and blank clocks write nothing
  pub run-keeps : (q : RunIn s calls) (j : ℕ)
      → ((n : ℕ) (x : PixelAt s n) → RunTakes s calls q n → entry_of s n x ≡ j → ⊥)
      → get_or (left_by s calls q) j 0 ≡ get_or q.picture j 0
  -- §8.4: a run leaves its picture as long as it was
  pub run_length : (q : RunIn s calls) → length (left_by s calls q) ≡ length q.picture
  -- §8.6: a refused call leaves the state, the number of clocks taken, the pending viewport and the shared picture as they were
  pub refused-leaves : (before : Calls) (c : Call) → Begins (before then c) calls → (refusal (final s before) c ≡ 0 → ⊥)
      → (final s (before then c) ≡ final s before)
      × (taken s (before then c) ≡ taken s before)
      × (last_viewport s (before then c) ≡ last_viewport s before)
      × ((p : List ℕ) → picture_left s p (before then c) ≡ picture_left s p before)
  -- §8.6: a refused run leaves the picture that it is lent, entry by entry
  pub refused-keeps : (before : Calls) (l : Lent) (n : ℕ) (picture : List ℕ) → Begins (before then a_run l n picture) calls
      → (refusal (final s before) (a_run l n picture) ≡ 0 → ⊥) → (run (final s before) l n picture).left ≡ picture
  -- §8.2: each clock numbered below the number of clocks taken is taken by some call
  pub each-clock : (n : ℕ) → n < taken s calls → Takes s calls n
  -- §8.2: no two calls take the same clock
  pub once : (n : ℕ) (p q : Takes s calls n) → (p.before then p.call) ≡ (q.before then q.call)
  -- §8.2: a call that takes a clock is an accepted step or an accepted run
  pub by-which : (n : ℕ) → Takes s calls n → TakenBy s calls n
  -- §8.4: the clock of a pixel of frame f is one of frame f
  pub pixel-in-frame : (f r c : ℕ) → OnPanel s.screen.words r c → InFrame s f (pixel_time s f r c)
  -- §8.4: no clock is the clock of two pixels
  pub one-pixel : (n : ℕ) (x y : PixelAt s n) → (x.frame ≡ y.frame) × (x.row ≡ y.row) × (x.column ≡ y.column)
  -- §8.4: a frame whose clocks are all taken misses no pixel: the clock of each is taken
  pub whole-frame : (f : ℕ) → (f + 1) * frame_of s ≤ taken s calls → (r c : ℕ) → OnPanel s.screen.words r c
      → Takes s calls (pixel_time s f r c)
  -- §8.4: within a frame the pixels come in reading order
  pub reading-order : (f r c r' c' : ℕ) → OnPanel s.screen.words r c → OnPanel s.screen.words r' c'
      → r * width s.screen.words + c < r' * width s.screen.words + c' → pixel_time s f r c < pixel_time s f r' c'
  -- §8.4: where each frame has one memory and one palette, a pixel of a frame has one colour, whichever call shows it
  pub one-colour : SameLent s calls → (f r c n m : ℕ) (p : Takes s calls n) (q : Takes s calls m) → InFrame s f n → InFrame s f m
      → frame_colour s calls f (lent_to p.call) r c ≡ frame_colour s calls f (lent_to q.call) r c
  -- §8.5: of the clocks that runs took for an entry's pixel, the latest decides which colour a shared picture has there in the end
  pub last-colour : (p : List ℕ) → OnePicture s p calls → (q : RunIn s calls) (n : ℕ) (x : PixelAt s n) → RunTakes s calls q n
      → ((q' : RunIn s calls) (n' : ℕ) (x' : PixelAt s n') → RunTakes s calls q' n' → entry_of s n' x' ≡ entry_of s n x → n' ≤ n)
      → accepted (get_or (picture_left s p calls) (entry_of s n x) 0) ≡ pixel_colour s calls q.lent n x
  -- §8.5: an entry for whose pixel no run took a clock still has its value of p
  pub untouched : (p : List ℕ) → OnePicture s p calls → (j : ℕ)
      → ((q : RunIn s calls) (n : ℕ) (x : PixelAt s n) → RunTakes s calls q n → entry_of s n x ≡ j → ⊥)
      → get_or (picture_left s p calls) j 0 ≡ get_or p j 0
  -- §8.5: a shared picture stays as long as p
  pub picture-length : (p : List ℕ) → OnePicture s p calls → length (picture_left s p calls) ≡ length p

-- the claim, for any state at position 0, wherever it comes from, and any list of calls (§8.1)
abbrev pub Demand3 : Type 0
Demand3 = (s : State) → s.position ≡ 0 → (calls : Calls) → FrameByFrame s calls

-- and so for the state of any accepted start
abbrev pub Demand3FromStart : Type 0
Demand3FromStart =
    (words : List ℕ) (window-start : ℕ) (memory : List ℕ) (s : State) → start words window-start memory ≡ accepted s
    → (calls : Calls) → FrameByFrame s calls

-- ---- beside the claim: a run and single steps (§7.4)

-- n single steps, each lent the same
unfoldable pub single_steps : Lent → ℕ → Calls
single_steps l zero = nothing
single_steps l (suc n) = single_steps l n then a_step l

-- an accepted run leaves the state that as many single steps leave: they are all accepted, and take as many clocks
abbrev pub RunIsSteps : Type 0
RunIsSteps =
    (s : State) (l : Lent) (n : ℕ) (picture : List ℕ) (t : Taken) → (run s l n picture).answer ≡ accepted t
    → (final s (single_steps l t.count) ≡ t.next)
    × (taken s (single_steps l t.count) ≡ t.count)
    × ((k : ℕ) → k < t.count → refusal (final s (single_steps l k)) (a_step l) ≡ 0)
