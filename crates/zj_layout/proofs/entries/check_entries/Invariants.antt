use Rattle.zj_layout.specs.Image.{image_of}
use Rattle.zj_layout.specs.Read.{LeadsOn}
use Rattle.zj_layout.proofs.Entered.{LowestOf}
use Rattle.zj_layout.proofs.entries.check_entries.Given as goal

abbrev pub invariant-loop-dir : goal.invariant-loop-dir
invariant-loop-dir l = LowestOf (image_of l.sizes l.blocks) (LeadsOn l.sizes (image_of l.sizes l.blocks)) l.sizes.blocks l.dir l.lowest
