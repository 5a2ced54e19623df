-- What a crash inside the device calls of a commit may leave.
use Rattle.std.specs.Prelude.{◌≡◌, ℕ, ◌+◌, ◌-◌, true, List}
use Rattle.zj_dev.specs.Disk.{DiskView, SameOutside}

-- an image from before, with any bytes in the record behind its gate, and in the gate of the next one
pub record TornByLay (place len next : ℕ) (old : DiskView) (image : List ℕ) : Type 0 where
  pub before : List ℕ
  pub middle : List ℕ
  pub left : old.may_leave old.calls before ≡ true
  pub body : SameOutside (place + 1) (len - 1) before middle
  pub gate : SameOutside next 1 middle image

-- an image from before, with any byte in the gate
pub record TornByGate (place : ℕ) (old : DiskView) (image : List ℕ) : Type 0 where
  pub before : List ℕ
  pub left : old.may_leave old.calls before ≡ true
  pub gate : SameOutside place 1 before image
