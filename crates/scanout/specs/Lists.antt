-- Lists of calls (§8.1): each call is made on the state that the calls before have left, and nothing but calls changes it. What one
-- call and a list of them do to the state, the clocks taken (§8.2), the viewports (§8.3) and a shared picture (§8.5).
-- The claim of FrameByFrame is stated over it, so a reader must believe it.
use Rattle.std.specs.Prelude.{cond, List, [], ◌⊎◌, ◌≡◌, ℕ, ◌+◌, ◌*◌, ltb}
use Rattle.laws.specs.Answers.{or_else, number_of}
use Rattle.drawing.specs.Colour.{Lent}
use Rattle.registers.specs.declared.Words.{Words}
use Rattle.scanout.specs.Calls.{step, run, change}
use Rattle.scanout.specs.State.{with_viewport, frame_of}
use Rattle.scanout.specs.declared.state.State.{State}
use Rattle.scanout.specs.declared.state.Viewport.{Viewport}

-- ---- one call

-- a step, a run that is asked for some number of clocks, or a viewport change (§8.1), each with what it is lent
pub data Call : Type 0 where
  a_step : Lent → Call
  a_run : Lent → ℕ → List ℕ → Call
  a_change : List ℕ → Viewport → Call

-- the memory and palette that a call is lent; a viewport change is lent no palette, and takes no clocks
abbrev pub lent_to : Call → Lent
lent_to (a_step l) = l
lent_to (a_run l n picture) = l
lent_to (a_change memory v) = record { memory = memory; palette = [] }

-- the number of a call's refusal, 0 where it is accepted
unfoldable pub refusal : State → Call → ℕ
refusal s (a_step l) = number_of (step s l)
refusal s (a_run l n picture) = number_of (run s l n picture).answer
refusal s (a_change memory v) = number_of (change s memory v)

-- the state that the next call gets: the one that this call gives, or the same again where it is refused (§8.6)
unfoldable pub next : State → Call → State
next s (a_step l) = or_else (λ k. k.next) s (step s l)
next s (a_run l n picture) = or_else (λ t. t.next) s (run s l n picture).answer
next s (a_change memory v) = or_else (λ t. t) s (change s memory v)

-- how many clocks a call takes (§8.2): an accepted step 1, an accepted run its count, any other call none
unfoldable pub clocks : State → Call → ℕ
clocks s (a_step l) = or_else (λ k. 1) 0 (step s l)
clocks s (a_run l n picture) = or_else (λ t. t.count) 0 (run s l n picture).answer
clocks s (a_change memory v) = 0

-- the pending viewport after a call, v before it (§8.3): an accepted viewport change brings the new one, any other call keeps v
unfoldable pub pending_after : State → Viewport → Call → Viewport
pending_after s v (a_step l) = v
pending_after s v (a_run l n picture) = v
pending_after s v (a_change memory new) = or_else (λ t. new) v (change s memory new)

-- the shared picture after a call, p before it (§8.5): an accepted run leaves what it has drawn, any other call keeps p
unfoldable pub picture_after : State → List ℕ → Call → List ℕ
picture_after s p (a_step l) = p
picture_after s p (a_run l n picture) = or_else (λ t. (run s l n picture).left) p (run s l n picture).answer
picture_after s p (a_change memory v) = p

-- ---- many calls, in the order in which they are made: nothing, or a list and one call more

infixl 40 ◌then◌
pub data Calls : Type 0 where
  nothing : Calls
  ◌then◌ : Calls → Call → Calls

-- the first list is a front of the second, or all of it
unfoldable pub Begins : Calls → Calls → Type 0
Begins part nothing = part ≡ nothing
Begins part (cs then c) = (part ≡ (cs then c)) ⊎ Begins part cs

-- the state after a list that begins with s
unfoldable pub final : State → Calls → State
final s nothing = s
final s (cs then c) = next (final s cs) c

-- how many clocks a list takes (§8.2): their numbers are 0 and up, in the order in which they are taken
unfoldable pub taken : State → Calls → ℕ
taken s nothing = 0
taken s (cs then c) = taken s cs + clocks (final s cs) c

-- the pending viewport after a list (§8.3): the last one accepted, or that of s where there is none
unfoldable pub last_viewport : State → Calls → Viewport
last_viewport s nothing = s.pending
last_viewport s (cs then c) = pending_after (final s cs) (last_viewport s cs) c

-- the shared picture after a list, p at first (§8.5)
unfoldable pub picture_left : State → List ℕ → Calls → List ℕ
picture_left s p nothing = p
picture_left s p (cs then c) = picture_after (final s cs) (picture_left s p cs) c

-- the calls before the one that takes clock n; all of them where none does
unfoldable pub calls_before : State → ℕ → Calls → Calls
calls_before s n nothing = nothing
calls_before s n (cs then c) =
    cond (ltb n (taken s cs)) (calls_before s n cs) (cond (ltb n (taken s (cs then c))) cs (cs then c))

-- the viewport of frame f (§8.3): the one that is pending when the frame's first clock, number f × L × C, is taken
unfoldable pub frame_viewport : State → Calls → ℕ → Viewport
frame_viewport s calls f = last_viewport s (calls_before s (f * frame_of s) calls)

-- the words that frame f is scanned with (§8.3): those of s, with the viewport of the frame in them
unfoldable pub frame_words : State → Calls → ℕ → Words
frame_words s calls f = with_viewport s.screen.words (frame_viewport s calls f)
