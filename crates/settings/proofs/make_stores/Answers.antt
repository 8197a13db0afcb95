-- `settings::make_stores` meets its contract: one store a turn.
use mathlib.Core.Path.{refl, ap}
use native.Mathlib.Omega.{arith}
use lib.ListN.{take}
use Rattle.settings.specs.Stores.{after_stores}
use Rattle.settings.proofs.Storing.{within-nine, length-kept, next-made, all_made}
use Rattle.settings.proofs.make_stores.Goals as goal

pub loop-store-init : goal.loop-store-init
unfolding after_stores
loop-store-init c = refl

pub offset_bounds-stored-store : goal.offset_bounds-stored-store
offset_bounds-stored-store c =
    let within = within-nine c.args.w c.args.stored.now c.loop-store.stored c.loop-store.store-index c.min-made.result _
    (ap (take c.min-made.result) c.ten_stores.ensures) c.loop-store.invariant c.loop-store-test.true in
    record { fits = omega (arith, within) }

pub bounds-stored-store : goal.bounds-stored-store
bounds-stored-store c =
    let same = ap (take c.min-made.result) c.ten_stores.ensures in
    let within = within-nine c.args.w c.args.stored.now c.loop-store.stored c.loop-store.store-index c.min-made.result _
    same c.loop-store.invariant c.loop-store-test.true in
    omega (arith, within, length-kept c.args.w _ _ _ _ _ same c.loop-store.invariant)

pub loop-store-preserved : goal.loop-store-preserved
loop-store-preserved c =
    next-made c.args.w _ _ _ _ _ (ap (take c.min-made.result) c.ten_stores.ensures) c.loop-store.invariant c.loop-store-test.true

pub returns : goal.returns
returns c =
    all_made c.args.w _ _ c.loop-store.store-index _ _ (ap (take c.min-made.result) c.ten_stores.ensures) c.loop-store.invariant
    c.args.cut c.min-made.ensures c.loop-store-test.false
