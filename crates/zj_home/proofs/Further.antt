-- Runs of calls after which the disk is still one.
use Rattle.zj_dev.specs.Disk.{DiskView, IsDisk}
use Rattle.zj_dev.proofs.DiskLaws.{continues_refl, continues_trans}
use Rattle.zj_home.specs.Made.{GoesFurther}

-- no call
pub further_refl : (disk : DiskView) → IsDisk disk → GoesFurther disk disk
further_refl disk is = record { continues = continues_refl disk; is_disk = is }

-- some calls, and then more
pub further_trans : (a b c : DiskView) → GoesFurther a b → GoesFurther b c → GoesFurther a c
further_trans a b c first second = record { continues = continues_trans a b c first.continues second.continues; is_disk = second.is_disk }
