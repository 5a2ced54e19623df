use Rattle.std.proofs.Common.{◌≡◌, ℕ, ◌<◌, ◌≤◌, length, slice_index}
use Rattle.zj_inode.proofs.files.first_blocks.Given as goal

abbrev pub invariant-loop-j : goal.invariant-loop-j
invariant-loop-j l = record {
  many : length l.first ≡ 12;
  first : (k : ℕ) → k < l.j → slice_index l.first k ≡ slice_index l.blocks k;
  zeros : (k : ℕ) → l.j ≤ k → slice_index l.first k ≡ 0;
}
