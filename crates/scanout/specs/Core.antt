-- What a private function of the scan (§7.3, §7.4) leaves. A reader of the promises need not believe it.
use Rattle.std.specs.Prelude.{ℕ, ◌+◌, ◌%◌}
use Rattle.scanout.specs.State.{frame_of, shown_screen}
use Rattle.scanout.specs.declared.state.State.{State}

-- the state after n clocks of one frame, n at least 1: the screen that they were shown with is in force
abbrev pub moved : ℕ → State → State
moved n s =
    record {
      screen = shown_screen s;
      pending = s.pending;
      position = (s.position + n) % frame_of s;
    }
