-- A state that is given as its 13 entries (§10.4) is read back from them. A reader need not believe it.
use Rattle.std.specs.Prelude.{◌≡◌, refl}
use Rattle.scanout.specs.State.{state_of, entries_of}
use Rattle.scanout.specs.declared.state.State.{State}

pub entries-read-back : (s : State) → state_of (entries_of s) ≡ s
entries-read-back s = refl
