-- `memory::first_word` meets its contract.
use native.Mathlib.Omega.{arith}
use Rattle.memory.specs.Memory.{first_word}
use Rattle.memory.proofs.Window.{row-address-le}
use Rattle.memory.proofs.first_word.Goals as goal

pub returns-then-address-window_start : goal.returns-then-address-window_start
unfolding first_word
returns-then-address-window_start c = record { value = rw (← c.row_address-address.ensures) (omega arith); upper_bound = omega arith }

pub returns : goal.returns
unfolding first_word
returns c =
    let a = c.args in
    record {
      value = rw (← c.row_address-address.ensures);
      upper_bound = omega (arith, c.row_address-address.ensures, row-address-le a.s.words a.row 4294967295 (omega arith));
    }
