-- A home as its callers see it, and why opening one is refused.
use Rattle.std.specs.Prelude.{◌≡◌, Some, IfSome}
use Rattle.zj_dev.specs.Fault.{Rose}
use Rattle.zj_dev.specs.Disk.{DiskView}
use Rattle.zj_home.specs.Super.{Super, image_fault}
use Rattle.zj_home.specs.declared.fault.HomeFault.{HomeFault}
use Rattle.zj_home.specs.declared.fault.HomeFault.TheVariants as faults

-- a home: its device, and the super that it was opened or made with
pub record HomeView (D : Type 0) : Type 0 where
  pub device : D
  pub told : Super

-- Why a device was not opened. A fault of the device comes where its count rose, one of memory before any call, and any other
-- is the first that its bytes have.
abbrev pub IsCause : DiskView → DiskView → HomeFault → Type 0
IsCause old new faults.DiskFault = Rose old.faults new.faults
IsCause old new faults.NoMemory = new ≡ old
IsCause old new (faults.NotAnImage at) = IfSome old.bytes (λ image. image_fault image ≡ Some (faults.NotAnImage at))
IsCause old new (faults.Version found) = IfSome old.bytes (λ image. image_fault image ≡ Some (faults.Version found))
IsCause old new (faults.Sizes found expected) = IfSome old.bytes (λ image. image_fault image ≡ Some (faults.Sizes found expected))
