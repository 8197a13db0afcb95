-- `settings::ten_stores` meets its contract: store by store.
use Rattle.std.proofs.Common.{refl}
use Rattle.settings.specs.Stores.{ten_stores}
use Rattle.settings.proofs.ten_stores.Goals as goal

pub returns : goal.returns
unfolding ten_stores
returns c =
    rw (c.gets.ensures, c.gets-2.ensures, c.gets-3.ensures, c.gets-4.ensures, c.gets-5.ensures)
    (rw (c.gets-6.ensures, c.gets-7.ensures, c.gets-8.ensures, c.gets-9.ensures, c.gets-10.ensures)
    (rw c.with_video_off.ensures refl))
