-- The names of devices.
use Rattle.std.specs.Prelude.{ℕ, List, ◌∷◌, codes}
use Rattle.std.specs.Fmt.{decimal}
use Rattle.zj_dev.specs.declared.device.Device.{Device}
use Rattle.zj_dev.specs.declared.device.Device.TheVariants.{Home, Journal}

-- the bytes of a device's name: `home`, or `j` and the core in decimal
abbrev pub device_name : Device → List ℕ
device_name Home = codes "home"
device_name (Journal core) = 106 ∷ decimal core
