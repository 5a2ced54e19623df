-- The program's faults, for those of the crates below.
use Rattle.zj_mount.specs.declared.fault.MountFault.{MountFault}
use Rattle.zj_mount.specs.declared.fault.MountFault.TheVariants as mounts
use Rattle.zj_mount.specs.declared.fault.OpenFault.{OpenFault}
use Rattle.zj_mount.specs.declared.fault.OpenFault.TheVariants as opens
use Rattle.zj_script.specs.declared.fault.ScriptFault.{ScriptFault}
use Rattle.zj_script.specs.declared.fault.ScriptFault.TheVariants as refusals
use Rattle.zj_session.specs.declared.playing.Stopped.{Stopped}
use Rattle.zj_session.specs.declared.playing.Stopped.TheVariants as stops
use Rattle.zj_cli.specs.declared.status.Fault.{Fault}
use Rattle.zj_cli.specs.declared.status.Fault.TheVariants as faults
use Rattle.zj_cli.specs.declared.status.ImageFault.TheVariants as images

-- the fault of an image that was not opened
abbrev pub fault_of_opening : OpenFault → Fault
fault_of_opening (opens.Absent device) = faults.Image (images.Absent device)
fault_of_opening (opens.NotAnImage at) = faults.Image (images.NotAnImage at)
fault_of_opening (opens.Version found) = faults.Image (images.Version found)
fault_of_opening (opens.Sizes device found expected) = faults.Image (images.Sizes device found expected)
fault_of_opening (opens.DiskFault device) = faults.Device device
fault_of_opening (opens.ShelfFault device) = faults.Device device
fault_of_opening opens.NoMemory = faults.Memory

-- the fault of an image that was not mounted
abbrev pub fault_of_mounting : MountFault → Fault
fault_of_mounting (mounts.DiskFault device) = faults.Device device
fault_of_mounting (mounts.Damaged device at found expected) = faults.Image (images.Damaged device at found expected)
fault_of_mounting (mounts.NoTree rule block) = faults.Image (images.NoTree rule block)
fault_of_mounting (mounts.Unbuilt device) = faults.Image (images.Unbuilt device)
fault_of_mounting mounts.NoMemory = faults.Memory

-- the fault of a place where a schedule is refused
abbrev pub fault_of_script : ScriptFault → Fault
fault_of_script (refusals.Refused kind line column) = faults.Script kind line column
fault_of_script refusals.NoMemory = faults.Memory

-- the fault that ended a schedule
abbrev pub fault_of_stopping : Stopped → Fault
fault_of_stopping (stops.Device device) = faults.Device device
fault_of_stopping (stops.Damaged device at found expected) = faults.Image (images.Damaged device at found expected)
