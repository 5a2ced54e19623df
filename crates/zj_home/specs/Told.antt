-- What was read from a slot, as the super that it is.
use Rattle.std.specs.Prelude.{take}
use Rattle.zj_home.specs.Super.{Super}
use Rattle.zj_home.specs.declared.slot.Told.{Told}

-- the super that was read from a slot: a tail for each core
abbrev pub super_told : Told → Super
super_told told = record { slot = told.slot; epoch = told.epoch; sizes = told.sizes; tails = take told.sizes.cores told.tails }
