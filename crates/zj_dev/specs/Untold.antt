-- What a disk over the real system tells: its length and its counts alone.
use Rattle.std.specs.Prelude.{ℕ, false, None}
use Rattle.zj_dev.specs.Disk.{DiskView}

-- a disk of that many bytes, with so many calls made and so many failed, and nothing told of its bytes
abbrev pub untold : ℕ → ℕ → ℕ → DiskView
untold size calls faults = record { size = size; calls = calls; faults = faults; bytes = None; may_leave = λ moment image. false; faults_at = λ moment. 0 }
