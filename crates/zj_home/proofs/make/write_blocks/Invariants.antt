use Rattle.std.specs.Prelude.{IfSome}
use Rattle.zj_dev.specs.Disk.{LeadsTo}
use Rattle.zj_home.specs.Made.{GoesFurther, HasNoLetters, HoldsBlocks}
use Rattle.zj_home.proofs.make.write_blocks.Given as goal

-- the blocks so far stand at their places, and no letters came
abbrev pub invariant-loop-b : goal.invariant-loop-b
invariant-loop-b g l = record {
  kept : GoesFurther (g.D.Disk.view l.fn.d) (g.D.Disk.view l.d);
  holds : IfSome (g.D.Disk.view l.d).bytes (λ image. HoldsBlocks image l.blocks l.b);
  letters : LeadsTo HasNoLetters HasNoLetters (g.D.Disk.view l.fn.d) (g.D.Disk.view l.d);
}
