use Rattle.std.proofs.Common.{◌≡◌, ◌+◌, ◌*◌, ◌≤◌, length}
use Rattle.std.specs.FinMap as map_of
use Rattle.zj_layout.specs.Node.{blocks_needed}
use Rattle.zj_dirs.specs.Possible.{AllTaken, KeepsContents}
use Rattle.zj_inode.specs.Files.{WritesFirst}
use Rattle.zj_inode.proofs.files.write_blocks.Given as goal

abbrev pub invariant-loop-j : goal.invariant-loop-j
invariant-loop-j l = record {
  written : WritesFirst l.sizes l.taken l.fn.built l.built l.file.number l.at (blocks_needed l.file.node) l.bytes l.blocks l.j;
  many : length l.blocks ≡ 12;
  taken : AllTaken l.taken l.fn.built → AllTaken l.taken l.built;
  kept : KeepsContents l.taken l.fn.built l.built;
  few : map_of.len l.built ≤ map_of.len l.fn.built + 2 * l.j;
}
