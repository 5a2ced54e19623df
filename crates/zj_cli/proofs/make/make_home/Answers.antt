use Rattle.std.proofs.Common.{inr, refl}
use Rattle.zj_home.specs.Made.{IsFailure}
use Rattle.zj_home.specs.declared.fault.HomeFault.{HomeFault}
use Rattle.zj_home.specs.declared.fault.HomeFault.TheVariants as homes
use Rattle.zj_dev.specs.Fault.{Rose}
use Rattle.zj_dev.specs.Disk.{DiskView}
use Rattle.zj_cli.proofs.MakeLemmas.{home_failed, home_made}
use Rattle.zj_cli.proofs.make.make_home.Goals as goal

pub returns-in-Ok-clause-made : goal.returns-in-Ok-clause-made
returns-in-Ok-clause-made g c =
    home_made c.args.sizes.now c.args.blocks.now c.requires.shows _ _ _ (g.H.D.Disk.view c.in_ok-d.d) (g.H.D.Disk.view c.in-Ok.home.device) (rw c.home_len.ensures.value at c.in_ok-d.ensures.made) (rw c.into_device.ensures at c.put_back.ensures.closed) c.in-Ok.ensures.continues c.in-Ok.ensures.moments c.in-Ok.ensures.made

pub returns-in-Err-clause-cause : goal.returns-in-Err-clause-cause
returns-in-Err-clause-cause g c =
    inr (
      refl,
      home_failed c.args.sizes.now c.args.blocks.now c.requires.shows _ _ _ (g.H.D.Disk.view c.in_ok-d.d) (g.H.D.Disk.view c.in-Err.refused.device) (rw c.home_len.ensures.value at c.in_ok-d.ensures.made) c.close.ensures.closed c.in-Err.ensures.refused_continues c.in-Err.ensures.refused_moments
          (failure (g.H.D.Disk.view c.in_ok-d.d) (g.H.D.Disk.view c.in-Err.refused.device) c.in-Err.refused.fault c.in-Err.ensures.cause),
    )
  where
    failure : (old new : DiskView) (fault : HomeFault) → IsFailure old new fault → Rose old.faults new.faults
    failure old new homes.DiskFault rose = rose
    failure old new (homes.NotAnImage at) none = absurd none
    failure old new (homes.Version found) none = absurd none
    failure old new (homes.Sizes found expected) none = absurd none
    failure old new homes.NoMemory none = absurd none
