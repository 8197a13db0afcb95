-- `settings::make_stores` meets its contract: one store a turn.
use mathlib.Core.Path.{◌≡◌}
use lib.ListN.{take}
use Rattle.settings.specs.Stores.{after_stores}
use Rattle.settings.proofs.make_stores.Given as goal

abbrev pub invariant-loop-store : goal.invariant-loop-store
invariant-loop-store l = l.stored ≡ after_stores (take l.store-index l.store-items) l.initial.stored
