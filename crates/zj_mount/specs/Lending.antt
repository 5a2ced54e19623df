-- What areas end as, once a `&mut` to them has ended.
use Rattle.std.specs.Prelude.{List, length}
use Rattle.std.specs.Borrow.{Array, Fml, Lends, MutBor, RattleType}
use Rattle.std.specs.List.{refill}
use Rattle.zj_dev.specs.declared.disk.Disk.{Ghosts}
use Rattle.zj_area.specs.Journal.{AreaView}
use Rattle.zj_area.specs.contracts.area.Area.{the_row as area_row}
use Rattle.zj_mount.specs.Areas.{AreaList}
use Rattle.zj_mount.specs.contracts.areas.Areas.{the_row}

-- They are the ones last written through the slice.
abbrev pub LendsAreas : (D : RattleType) → Ghosts D.Denot → MutBor (AreaList D.Denot) → MutBor (List (AreaView D.Denot)) → Fml
LendsAreas D disk a r = Lends (the_row D disk) (Array (area_row D disk) 0) a r (λ areas. record a.now { areas = refill (length a.now.areas) a.now.areas areas })
