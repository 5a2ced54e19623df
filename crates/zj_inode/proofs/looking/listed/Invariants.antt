use Rattle.std.proofs.Common.{◌≡◌, take}
use Rattle.zj_inode.proofs.looking.listed.Given as goal

abbrev pub invariant-loop-name : goal.invariant-loop-name
invariant-loop-name l = l.listed ≡ take l.name-index l.names
