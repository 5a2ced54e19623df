-- Where a rule of an image fails first.
use Rattle.std.specs.Prelude.{◌≡◌, ℕ, ◌<◌}
use Rattle.zj_block.specs.Sizes.{Numbers}
use Rattle.zj_layout.specs.declared.faults.TreeFault.{TreeFault}
use Rattle.zj_layout.specs.declared.faults.TreeFault.TheVariants.{NoTree, NoMemory}
use Rattle.zj_layout.specs.Image.{Image}
use Rattle.zj_layout.specs.Rules.{FailsFirst}

-- A rule fails at a block, and at no lower one.
pub record FailsAt (Holds : ℕ → Type 0) (block : ℕ) : Type 0 where
  pub fails : ¬ (Holds block)
  pub lowest : (b : ℕ) → b < block → Holds b

-- The fault is that of a rule, at the lowest block at which it fails; or the memory ran out.
abbrev pub IsFaultOf : ℕ → (ℕ → Type 0) → TreeFault → Type 0
IsFaultOf rule Holds (NoTree found block) = (found ≡ rule) × FailsAt Holds block
IsFaultOf rule Holds NoMemory = Unit {0}

-- The fault is the first rule that fails, at the lowest block; or the memory ran out.
abbrev pub IsFirstFault : Numbers → Image → TreeFault → Type 0
IsFirstFault sizes image (NoTree rule block) = FailsFirst sizes image rule block
IsFirstFault sizes image NoMemory = Unit {0}
