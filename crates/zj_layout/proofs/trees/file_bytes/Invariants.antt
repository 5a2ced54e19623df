use Rattle.zj_layout.specs.Image.{image_of}
use Rattle.zj_layout.proofs.Filed.{HasBytes}
use Rattle.zj_layout.proofs.trees.file_bytes.Given as goal

abbrev pub invariant-loop-j : goal.invariant-loop-j
invariant-loop-j l = HasBytes (image_of l.sizes l.blocks) l.file l.j l.bytes
